-- What went out of the source, and what a layer without blocks in a page has there.
use Rattle.std.proofs.Common.{◌≡◌, ℕ, ◌+◌, ◌*◌, ◌/◌, Bool, true, false, cond, List, [], ◌∷◌, refl, sym, ap, subst, ◌∙◌, arith}
use Rattle.std.specs.Prelude.{None, Some}
use Rattle.std.specs.Str.{bytes_eq}
use Rattle.vol_units.specs.declared.page_ref.PageRef.{PageRef}
use Rattle.sparse_image.specs.Image.{Table, HasNoBlock}
use Rattle.replica_node.specs.Node.{Kept, Node, has_own}
use Rattle.replica_node.specs.Fold.{own_named, HasNoBlockOf}
use Rattle.replica_node.specs.Held.{IsPageOf, block_named, block_of, own_block}
use Rattle.replica_node.proofs.OwnLemmas.{is_in-same}
use Rattle.open_calls.specs.Calls.{node_at}
use Rattle.open_rebuild.specs.declared.rebuilding.Rebuilding.{Rebuilding}
use Rattle.volume_core.specs.State.{State}
use Rattle.volume_rebuild.specs.Answers.{CopiesOut, IsOutOfSource}

-- none of its blocks is there
none_named : (ks : List Kept) (name : List ℕ) (block : ℕ) → has_own (own_named ks name) block ≡ false → block_named ks name block ≡ None
none_named [] name block e = refl
none_named (k ∷ ks) name block e = by (bytes_eq name k.meta.name) e (none_named ks name block)
  where
    by : (b : Bool) → has_own (cond b k.own (own_named ks name)) block ≡ false
        → (has_own (own_named ks name) block ≡ false → block_named ks name block ≡ None)
        → cond b (own_block k.disk k.own block) (block_named ks name block) ≡ None
    by true f rest = ap (λ t. cond t (Some (block_of k.disk block)) None) f
    by false f rest = rest f

pub bare_page : (node : Node) (name : List ℕ) (page : ℕ) (table : Table) → HasNoBlockOf node name page → HasNoBlock table
    → IsPageOf node name page table
bare_page node name page table bare none i h =
    let of : (page * 512 + i) / 512 ≡ page = omega (arith, h) in
    none i ∙ sym (none_named node.layers name (page * 512 + i) (bare (page * 512 + i) (is_in-same page (page * 512 + i) of)))

-- ---- what went out of the source

-- one rebuild is open
one_rebuild : (b c : Rebuilding) → Some b ≡ Some c → b ≡ c
one_rebuild b c e = cc

pub out_some : (s : State) (page : PageRef) (old new : Table) → CopiesOut s page true old new → IsOutOfSource s page new
out_some s page old new out b is =
    subst (λ (x : Rebuilding). IsPageOf (node_at s.nodes x.source) page.layer page.page new)
    (one_rebuild out.b b (sym out.is.begun ∙ is.begun)) out.out.1

pub out_none : (s : State) (page : PageRef) (old new bare : Table) → CopiesOut s page false old new → HasNoBlock bare
    → IsOutOfSource s page bare
out_none s page old new bare out none b is =
    subst (λ (x : Rebuilding). IsPageOf (node_at s.nodes x.source) page.layer page.page bare)
    (one_rebuild out.b b (sym out.is.begun ∙ is.begun))
    (bare_page (node_at s.nodes out.b.source) page.layer page.page bare out.out.0 none)
