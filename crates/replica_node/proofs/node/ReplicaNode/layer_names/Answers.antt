use Rattle.std.proofs.Common.{◌/◌, sym, ap, ◌∙◌}
use Rattle.std.proofs.lemmas.Result.{IfOk-weaker}
use Rattle.std.proofs.lemmas.Simd.{map-map}
use Rattle.replica_node.specs.Node.{Kept, kept_in, layer_names}
use Rattle.replica_node.proofs.node.ReplicaNode.layer_names.Goals as goal

pub returns : goal.returns
returns c =
    let t = c.self.inside.tree in
    IfOk-weaker c.names_in.result _ _
    (λ names is. is ∙ sym (map-map (λ (k : Kept). k.meta.name) (kept_in t.layers (c.self.inside.size / 4096)) t.layers)
    ∙ ap (λ n. layer_names n.layers) c.self.view_is)
    c.names_in.ensures
