-- `remote_desktop::remote_rule` meets its contract, field by field.
use mir.ValLaws.{to_z-of_z}
use mir.Syntax.{w32}
use Rattle.remote_desktop.specs.RemoteDesktop.{remote_rule}
use Rattle.remote_desktop.proofs.remote_rule.Goals as goal

pub returns : goal.returns
unfolding remote_rule
returns c =
    let b = c.read-bias in
    let s = c.read-standard_bias in
    let d = c.read-daylight_bias in
    rw (
      to_z-of_z w32 b.result (record { sfits = b.type_inv }),
      to_z-of_z w32 s.result (record { sfits = s.type_inv }),
      to_z-of_z w32 d.result (record { sfits = d.type_inv }),
    )
    (simp (b.ensures, s.ensures, d.ensures, c.date_at-standard_date.ensures, c.date_at-daylight_date.ensures))
