use Rattle.std.proofs.Common.{◌≡◌, ℕ, ◌*◌, List, false, replicate, ap, subst, refl, ◌∙◌}
use Rattle.vol_units.specs.Name.{sys_name}
use Rattle.replica_node.specs.Node.{layer_names}
use Rattle.open_rebuild.specs.Frozen.{AreFrozen}
use Rattle.open_rebuild.proofs.rebuilding.Rebuilding.begin.Goals as goal

pub returns : goal.returns
returns c =
    let made = c.in_ok-frozen.ensures in
    let layers : c.deref.result.now ≡ layer_names c.args.node.now.layers = c.deref.ensures.value ∙ c.in_ok-layers.ensures in
    let own : c.sys-own.result ≡ sys_name c.args.node.now.number = c.sys-own.ensures ∙ ap sys_name c.head_number.ensures in (
      refl,
      refl,
      record {
        frozen = subst (λ (names : List (List ℕ)). AreFrozen names (sys_name c.args.node.now.number) c.in_ok-frozen.frozen) layers
            (subst (λ (name : List ℕ). AreFrozen c.deref.result.now name c.in_ok-frozen.frozen) own made.0);
        order = made.1;
        pages = c.page_count-pages.ensures;
        listed = c.in_ok-listed.ensures ∙ ap (λ n. replicate (n * c.page_count-pages.result) false) c.count.ensures;
        waits = refl;
      },
    )
