use Rattle.std.proofs.Common.{string_bytes, ap, ◌∙◌}
use Rattle.scopes.specs.Scopes.{NameText}
use Rattle.design_scopes.specs.Blocks.{numbered_block}
use Rattle.design_scopes.proofs.BlockNames.{zero_more, free_told, taken_more}
use Rattle.design_scopes.proofs.scoped.ScopedDesign.free_name.Goals as goal

pub loop-zero-preserved : goal.loop-zero-preserved
loop-zero-preserved c =
    let zeros = string_bytes c.loop-zero.zeros in
    let known = c.loop-zero.invariant in
    record {
      zeros_are = zero_more c.loop-zero._zero zeros (string_bytes c.push_str.new.self) known.zeros_are c.in_ok-push_str.ensures.bytes;
      taken = taken_more c.args.self.now.tree.scopes.items c.args.scope c.args.number c.loop-zero._zero zeros (string_bytes c.in_ok-text.text) c.as_bytes.result.now c.declared.result c.is_none.result known.zeros_are
          (c.in_ok-text.ensures ∙ ap (λ (z : NameText). numbered_block z c.args.number) c.as_str.ensures.value) c.as_bytes.ensures.value c.declared.ensures c.is_none.ensures c.if-is_none.false known.taken;
    }

pub returns-then-is_none : goal.returns-then-is_none
returns-then-is_none c =
    let zeros = string_bytes c.loop-zero.zeros in
    let known = c.loop-zero.invariant in
    free_told c.args.self.now.tree.scopes.items c.args.scope c.args.number c.loop-zero._zero zeros (string_bytes c.in_ok-text.text) c.as_bytes.result.now c.in_ok-copied.field-0.items c.declared.result c.is_none.result known.zeros_are
    (c.in_ok-text.ensures ∙ ap (λ (z : NameText). numbered_block z c.args.number) c.as_str.ensures.value) c.as_bytes.ensures.value c.declared.ensures c.is_none.ensures c.if-is_none.true
    (c.in_ok-copied.ensures ∙ c.as_bytes-then-is_none.ensures.value) known.taken
