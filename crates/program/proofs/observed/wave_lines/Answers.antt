-- What is said of waves, behind what they part in.
use Rattle.std.proofs.Common.{◌≡◌, ◌∙◌, ◌++◌, ℕ, Bool, List, length, option_map, subst}
use Rattle.verdict.specs.WaveLines.{wave_verdict_text}
use Rattle.program.proofs.Waved.{waves_said}
use Rattle.program.proofs.observed.wave_lines.Goals as goal

pub returns : goal.returns
returns c =
    let request = c.args.request.now in
    let prefix = option_map (λ path. path.now) request.journals in
    let registers = c.args.registers.now in
    let waves = c.args.waves.now in
    let shown = c.as_slice-shown.result.now in
    let stops = c.as_slice.result.now in
    let parts : List ℕ = c.push_waves.new.text.items in
    let begun : List ℕ = c.push_before.new.text.items in
    let said : List ℕ = c.push_wave_verdict.new.text.items in
    waves_said c.args.design.now request.observed registers request.search_options prefix waves.claim waves.shown.items shown c.new-said.result.items parts begun said
    c.first_of.result.now waves.followed_before c.printed_lines.result c.endings_of.result stops c.as_slice-shown.ensures.value c.new-said.ensures.items c.in_ok-push_waves.ensures c.in_ok-push_before.ensures
    (subst (λ (all : Bool). said ≡ begun ++ wave_verdict_text waves.claim request.search_options.until (length shown) all (length registers) c.printed_lines.result c.endings_of.result stops prefix) c.observes_all.ensures c.in_ok-push_wave_verdict.ensures)
    c.first_of.ensures c.printed_lines.ensures c.endings_of.ensures (c.as_slice.ensures.value ∙ c.in_ok-stops.ensures)
