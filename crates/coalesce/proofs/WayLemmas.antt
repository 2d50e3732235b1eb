-- How the layer of a name can go is how the one at its place can.
use Rattle.std.proofs.Common.{◌≡◌, ℕ, true, List, Option, None, Some, MatchOption, sym, ◌∙◌}
use Rattle.layer_chain.specs.Tree.{Tree, IsAt, IsNew}
use Rattle.volume_model.proofs.PurgeLemmas.{is_marked}
use Rattle.volume_model.specs.Purge.{gone}
use Rattle.volume_model.specs.declared.mark.FoldOrDrop.{FoldOrDrop}
use Rattle.coalesce.specs.Folding.{snapshots_in}
use Rattle.coalesce.specs.Search.{GoesAt, StaysAt}
use Rattle.coalesce.specs.Way.{IsWayOf, HasNoWay}
use Rattle.coalesce.proofs.PlaceLemmas.{any_at, named_there, not_there}

-- the layer of the name stands there
pub way_at : (t : Tree) (name : List ℕ) (place : ℕ) (found : Option FoldOrDrop) → IsAt t.layers name place
    → MatchOption found (StaysAt t place) (λ part. GoesAt t place part)
    → MatchOption found (HasNoWay (snapshots_in t) t.on name) (λ part. IsWayOf (snapshots_in t) t.on name part)
way_at t name place None at stays = λ part is can. stays part (record { can = can; named = is ∙ sym at.named })
way_at t name place (Some part) at goes = (goes.named ∙ at.named, goes.can)

-- no layer has the name
pub no_way : (t : Tree) (name : List ℕ) → IsNew name t.layers → HasNoWay (snapshots_in t) t.on name
no_way t name new = λ part is can.
    let a = any_at (λ s. (s.name ≡ gone part) × (s.marked ≡ true)) t (is_marked (snapshots_in t) t.on part can) in
    not_there t name new (named_there t name a.0 a.1 (a.2.0 ∙ is))
