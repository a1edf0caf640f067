-- One name after another, between commas.
use Rattle.std.proofs.Common.{ℕ, List, [], ◌∷◌, ◌++◌, Some, refl, subst, sym, arith, rules}
use Rattle.std.proofs.lemmas.Str.Pattern.{split_parts}
use Rattle.wavetexts.specs.Names.{NamesRegisters, alone, last}
use Rattle.wavetexts.proofs.Named.{NamesOn, named_on, unknown_here, unknown_on}
use Rattle.wavetexts.proofs.names.registers_named.Goals as goal

pub loop-name-preserved : goal.loop-name-preserved
loop-name-preserved c =
    let names = c.args.design.now.names in
    let text = c.args.names.now in
    let rest = c.loop-name.rest.now in
    let found = c.loop-name.found.items in
    let name = c.in-Some.name.now in
    let more = c.in-Some.more.now in
    let register = c.in-Some-register_of.register in
    let parts = split_parts 44 rest (Some (c.in-Some.name, c.in-Some.more)) c.in-Some.ensures.cases (omega arith) in (
      search rules,
      subst (NamesOn names text more) (sym c.in_ok-push-in-Some-register_of.ensures.items)
          (named_on names text rest found name more register c.loop-name.invariant.1 parts.0 c.in-Some-register_of.ensures.some),
      unknown_on names text rest name more register c.loop-name.invariant.2 parts.0 c.in-Some-register_of.ensures.some,
    )

pub returns-in-None : goal.returns-in-None
returns-in-None c =
    let parts = split_parts 44 c.loop-name.rest.now (Some (c.in-Some.name, c.in-Some.more)) c.in-Some.ensures.cases (omega arith) in
    unknown_here c.args.design.now.names c.args.names.now c.loop-name.rest.now c.in-Some.name.now c.in-Some.more.now c.loop-name.invariant.2 parts.0 (c.in-None.ensures.none refl)

pub returns-in-Some-register_of-2 : goal.returns-in-Some-register_of-2
returns-in-Some-register_of-2 c =
    let register = c.in-Some-register_of-2.register in
    subst (NamesRegisters c.args.design.now.names c.args.names.now) (sym c.in_ok-push-in-Some-register_of-2.ensures.items)
    (c.loop-name.invariant.1 (register ∷ []) (last c.loop-name.rest.now register c.in-Some-register_of-2.ensures.some))

pub returns : goal.returns
returns c = c.loop-name.invariant.2 c.loop-name.rest.now (alone (c.in-None-register_of.ensures.none refl))
