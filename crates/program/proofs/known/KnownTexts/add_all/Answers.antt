-- One text more, until none is left.
use Rattle.std.proofs.Common.{◌∙◌, length, List, rules, sym, subst}
use Rattle.std.specs.List.{All, Contains}
use Rattle.std.proofs.lemmas.List.{map-id}
use Rattle.std.proofs.lemmas.List.Elements.{All-push}
use Rattle.std.proofs.lemmas.Iterator.Adapters.{YieldsList-from_vec}
use Rattle.std.proofs.lemmas.Iterator.Consumers.{YieldsList-turn, YieldsList-end}
use Rattle.model.specs.declared.entry.Entry.{Entry}
use Rattle.model.specs.declared.end.End.{End}
use Rattle.explore.specs.declared.Shown.{Shown}
use Rattle.explore.specs.Search.{IsShown}
use Rattle.program.proofs.Knowing.{each_before, each_more, grown_through, there_still}
use Rattle.program.proofs.known.KnownTexts.add_all.Goals as goal

pub loop-one-init : goal.loop-one-init
loop-one-init c = record { few = search rules; grows = search rules; each = each_before (Contains c.args.others.items) c.args.self.now.shown.items; there = search rules }

pub loop-one-preserved : goal.loop-one-preserved
loop-one-preserved c =
    let gives = c.into_iter-one-iterator.ensures.into_iter_gives in
    let one = c.in-Some.one in
    let t = YieldsList-turn (YieldsList-from_vec {s = c.into_iter-one-iterator.result} c.args.others.items gives.0 (gives.1 ∙ c.args.others.ok.0)) c.loop-one.yielded c.loop-one.one-iterator c.loop-one.yielded_by c.next.result c.next.new.self one c.in-Some.is c.next.ensures.steps in
    record {
      few = c.in_ok-there.ensures.few;
      grows = grown_through c.args.self.now c.loop-one.self c.add.new.self c.loop-one.invariant.grows c.in_ok-there.ensures.grows;
      each = each_more c.args.self.now.shown.items c.args.others.items c.loop-one.self.shown.items c.add.new.self.shown.items one c.loop-one.invariant.each (length c.loop-one.yielded, t.0, sym t.1) c.in_ok-there.ensures.each;
      there = All-push (λ (s : Shown Entry End). IsShown c.add.new.self.shown.items s.text.items s.end) c.loop-one.yielded one
          (there_still c.loop-one.self.shown.items c.add.new.self.shown.items c.loop-one.yielded c.in_ok-there.ensures.grows.shown c.loop-one.invariant.there) (c.in_ok-there.ensures.there c.if-not-there.false);
    }

pub returns-clause-there : goal.returns-clause-there
returns-clause-there c _ =
    let gives = c.into_iter-one-iterator.ensures.into_iter_gives in
    let t = YieldsList-end (YieldsList-from_vec {s = c.into_iter-one-iterator.result} c.args.others.items gives.0 (gives.1 ∙ c.args.others.ok.0)) c.loop-one.yielded c.loop-one.one-iterator c.loop-one.yielded_by c.next.result c.next.new.self c.in-None.is c.next.ensures.steps in
    subst (λ (ss : List (Shown Entry End)). All (λ s. IsShown c.loop-one.self.shown.items s.text.items s.end) ss) (sym (map-id c.loop-one.yielded) ∙ t.0) c.loop-one.invariant.there

pub returns-in_err-there-clause-each : goal.returns-in_err-there-clause-each
returns-in_err-there-clause-each c =
    let gives = c.into_iter-one-iterator.ensures.into_iter_gives in
    let one = c.in-Some.one in
    let t = YieldsList-turn (YieldsList-from_vec {s = c.into_iter-one-iterator.result} c.args.others.items gives.0 (gives.1 ∙ c.args.others.ok.0)) c.loop-one.yielded c.loop-one.one-iterator c.loop-one.yielded_by c.next.result c.next.new.self one c.in-Some.is c.next.ensures.steps in
    each_more c.args.self.now.shown.items c.args.others.items c.loop-one.self.shown.items c.add.new.self.shown.items one c.loop-one.invariant.each (length c.loop-one.yielded, t.0, sym t.1) c.in_err-there.ensures.each

pub returns-then-not-there-clause-each : goal.returns-then-not-there-clause-each
returns-then-not-there-clause-each c =
    let gives = c.into_iter-one-iterator.ensures.into_iter_gives in
    let one = c.in-Some.one in
    let t = YieldsList-turn (YieldsList-from_vec {s = c.into_iter-one-iterator.result} c.args.others.items gives.0 (gives.1 ∙ c.args.others.ok.0)) c.loop-one.yielded c.loop-one.one-iterator c.loop-one.yielded_by c.next.result c.next.new.self one c.in-Some.is c.next.ensures.steps in
    each_more c.args.self.now.shown.items c.args.others.items c.loop-one.self.shown.items c.add.new.self.shown.items one c.loop-one.invariant.each (length c.loop-one.yielded, t.0, sym t.1) c.in_ok-there.ensures.each

pub returns-in_err-there-clause-grows : goal.returns-in_err-there-clause-grows
returns-in_err-there-clause-grows c = grown_through c.args.self.now c.loop-one.self c.add.new.self c.loop-one.invariant.grows c.in_err-there.ensures.grows

pub returns-then-not-there-clause-grows : goal.returns-then-not-there-clause-grows
returns-then-not-there-clause-grows c = grown_through c.args.self.now c.loop-one.self c.add.new.self c.loop-one.invariant.grows c.in_ok-there.ensures.grows
