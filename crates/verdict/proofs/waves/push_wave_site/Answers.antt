use Rattle.std.proofs.Common.{◌≡◌, ◌++◌, ap, sym, subst, OnOk}
use Rattle.verdict.specs.WaveLines.{wave_site_text}
use Rattle.verdict.specs.declared.waves.WaveSite.{WaveSite}
use Rattle.verdict.proofs.Pieces.{put_alone}
use Rattle.verdict.proofs.waves.push_wave_site.Goals as goal

pub returns-in-Register : goal.returns-in-Register
returns-in-Register c =
    subst (λ (k : WaveSite). OnOk c.push_register.result (c.push_register.new.text.items ≡ c.args.text.now.items ++ wave_site_text k)) (sym c.in-Register.is) c.push_register.ensures

pub returns-in-Line : goal.returns-in-Line
returns-in-Line c =
    put_alone c.extend_from_slice.result c.extend_from_slice.new.self.items c.args.text.now.items _ (wave_site_text c.args.site) c.extend_from_slice.ensures.items (ap wave_site_text (sym c.in-Line.is))

pub returns-in-Time : goal.returns-in-Time
returns-in-Time c =
    put_alone c.extend_from_slice-in-Time.result c.extend_from_slice-in-Time.new.self.items c.args.text.now.items _ (wave_site_text c.args.site) c.extend_from_slice-in-Time.ensures.items (ap wave_site_text (sym c.in-Time.is))

pub returns-in-End : goal.returns-in-End
returns-in-End c =
    put_alone c.extend_from_slice-in-End.result c.extend_from_slice-in-End.new.self.items c.args.text.now.items _ (wave_site_text c.args.site) c.extend_from_slice-in-End.ensures.items (ap wave_site_text (sym c.in-End.is))
