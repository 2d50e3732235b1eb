use Rattle.std.proofs.Common.{◌≡◌, Bool, false, IsTrue, Some, refl, subst, rules}
use Rattle.serde_json.specs.Find.{as_str}
use Rattle.serde_json.specs.View.{view}
use Rattle.volume_model.specs.Commands.{IsCommand, IsNoCommand}
use Rattle.script_head.proofs.Readers.{no_text, no_other}
use Rattle.script_head.proofs.streams.command_of.Goals as goal
use Rattle.script_head.proofs.streams.command_of.Goals.{in_default-via-in-Ok+else-names_replica, in_default-via-in_default}

not_both : (b : Bool) → b ≡ false → IsTrue b → ⊥
not_both b failed is = cc

pub returns-in_default : goal.returns-in_default
returns-in_default c =
    let d = view c.args.item.now in
    let text = c.in_ok-text.text.now in
    let there : as_str d ≡ Some text = search rules in
    elim c.in_default.branch [
      | in_default-via-in-Ok+else-names_replica w ↦
          let is : IsCommand text w.in-Ok.command = subst (λ t. IsCommand t w.in-Ok.command) c.as_bytes.ensures.value
          w.in-Ok.ensures.found in (
            refl,
            no_other c.args.replicas d text w.in-Ok.command there is
                (λ fits. not_both _ w.if-names_replica.false (w.names_replica.ensures.1 fits)),
          )
      | in_default-via-in_default w ↦
          let none : IsNoCommand text = subst IsNoCommand c.as_bytes.ensures.value w.in_default.ensures.refused in
          (refl, no_text c.args.replicas d text there none)
    ]
