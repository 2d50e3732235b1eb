-- The pages of a rebuild, in a World.
use Rattle.std.proofs.Common.{◌≡◌, ◌≢◌, ℕ, zero, suc, ◌+◌, ◌*◌, ◌/◌, ◌%◌, ◌<◌, ⊎_elim, Bool, true, false, cond, nat_lt, List, [], ◌∷◌}
use Rattle.std.proofs.Common.{length, set, get_or-set_other, Option, None, Some, subst, sym, refl, ap, ◌∙◌, arith}
use Rattle.std.specs.Prelude.{not, count_by, ◌&&◌, is_some}
use Rattle.std.specs.Str.{bytes_eq}
use Rattle.std.proofs.lemmas.Bool.Decides.{nat_tests}
use Rattle.std.proofs.lemmas.Bool.{lt-ltb, false≢true}
use Rattle.std.proofs.lemmas.List.Sums.{sum_by-set}
use Rattle.sparse_image.specs.Image.{Table, HasBlock, place_at}
use Rattle.vol_units.specs.declared.page_ref.PageRef.{PageRef}
use Rattle.volume_model.specs.declared.mode.Mode.TheVariants.{Rw, Wo}
use Rattle.volume_model.specs.Modes.{mode_of}
use Rattle.replica_node.specs.Node.{Node, Kept as Layer, has_own}
use Rattle.replica_node.specs.Fold.{own_named, HasBlockOf}
use Rattle.replica_node.specs.Held.{IsPageOf, block_named, block_of, own_block}
use Rattle.open_calls.specs.Calls.{node_at}
use Rattle.open_rebuild.specs.Listed.{flag_at, AreListed, place_of}
use Rattle.open_rebuild.specs.declared.rebuilding.Rebuilding.{Rebuilding}
use Rattle.open_rebuild.specs.Claim.{IsRebuilding, with_page}
use Rattle.open_rebuild.specs.Pages.{IsFrozenPage, IsPageLeft, HasNoneLeft}
use Rattle.open_rebuild.proofs.PlaceLemmas.{page_within}
use Rattle.volume_core.specs.State.{State, modes_in}
use Rattle.volume_core.specs.Sound.{IsSound}
use Rattle.volume_rebuild.specs.Answers.{IsNextPage, CopiesIn, CopiesOut}
use Rattle.volume_rebuild.proofs.Bare.{bare_page}
use Rattle.volume_rebuild.proofs.Left.{has_bits}
use Rattle.world_steps.specs.Rebuild.{left_of, left_now, IsPageIn}

pub set_left : (bits : List Bool) (i : ℕ) → i < length bits → flag_at bits i ≡ false
    → count_by not (set bits i true) + 1 ≡ count_by not bits
set_left bits i within left =
    omega (
      arith,
      sum_by-set (λ (b : Bool). cond {A = ℕ} (not b) 1 0) bits i true false within,
      ap (λ (b : Bool). cond {A = ℕ} (not b) 1 0) left,
    )

none_left : (bits : List Bool) → AreListed bits (length bits) → count_by not bits ≡ 0
none_left [] all = refl
none_left (true ∷ bits) all = none_left bits (λ place h. all (suc place) (omega (arith, h)))
none_left (false ∷ bits) all = absurd (false≢true (all 0 (omega arith)))

pub past_left : (b : Rebuilding) → b.may_copy ≡ true → left_of b ≡ count_by not b.listed
past_left b may = ap (λ c. cond c (count_by not b.listed) 0) may

before_left : (b : Rebuilding) → b.may_copy ≡ false → left_of b ≡ 0
before_left b may = ap (λ c. cond c (count_by not b.listed) 0) may

no_left : (b : Rebuilding) → HasNoneLeft b → left_of b ≡ 0
no_left b none = ⊎_elim (before_left b) (λ all. by b.may_copy refl (none_left b.listed all)) none
  where
    by : (c : Bool) → b.may_copy ≡ c → count_by not b.listed ≡ 0 → left_of b ≡ 0
    by true e all = past_left b e ∙ all
    by false e all = before_left b e

-- none is left where there is no next page
pub takes_all : (s : State) → IsNextPage s None → left_now s.rebuild ≡ 0
takes_all s none = by s.rebuild refl
  where
    by : (x : Option Rebuilding) → s.rebuild ≡ x → left_now x ≡ 0
    by (Some b) e = no_left b (none b e)
    by None e = refl

unlisted : (a b : Bool) → a ≡ true → (a && b) ≡ false → b ≡ false
unlisted true b e f = f
unlisted false b e f = absurd (false≢true e)

module _ (s : State) (b : Rebuilding) (page : PageRef) (ok : IsSound s) (begun : s.rebuild ≡ Some b) (left : IsPageLeft b page) where
  abbrev its_place : ℕ
  its_place = place_of b.frozen page.layer * b.pages + page.page

  its_bit : flag_at b.listed its_place ≡ false
  its_bit = unlisted (nat_lt page.page b.pages) (flag_at b.listed its_place) (lt-ltb page.page b.pages left.frozen.page) left.left

  its_within : its_place < length b.listed
  its_within = omega (arith, page_within b.frozen page.layer b.pages page.page left.frozen.layer left.frozen.page, has_bits s b ok begun)

  pub one_fewer : left_of (with_page b page.layer page.page) + 1 ≡ left_of b
  one_fewer =
      ap (λ n. n + 1) (past_left (with_page b page.layer page.page) left.frozen.may)
      ∙ set_left b.listed its_place its_within its_bit ∙ sym (past_left b left.frozen.may)

  pub one_more : 0 < left_of b
  one_more = omega (arith, one_fewer)

-- the source is not what is rebuilt
pub apart : (s : State) (b : Rebuilding) → IsSound s → s.rebuild ≡ Some b → b.source ≢ b.target
apart s b ok is e =
    let roles = (subst (λ x. IsRebuilding s.size (modes_in s) s.tickets s.calls s.whole s.nodes x) is ok.rebuild).roles in
    rw≢wo (sym roles.source ∙ ap (mode_of (modes_in s)) e ∙ roles.target)
  where
    rw≢wo : Rw ≡ Wo → ⊥
    rw≢wo f = cc

pub same_open : (a b : Rebuilding) → Some a ≡ Some b → a ≡ b
same_open a b e = cc

-- what was true of the source's pages is true still
pub pages_kept : (s s2 : State) (page : PageRef) (old new : Table) → IsSound s → CopiesIn s page old new s2
    → (p : PageRef) (table : Table) → IsPageIn s p table → IsPageIn s2 p table
pages_kept s s2 page old new ok y p table is b begun frozen =
    let here : with_page y.b page.layer page.page ≡ b =
    same_open (with_page y.b page.layer page.page) b (sym (ap (λ (z : State). z.rebuild) y.state) ∙ begun) in
    let was_frozen : IsFrozenPage (with_page y.b page.layer page.page) p = subst (λ (z : Rebuilding). IsFrozenPage z p) (sym here) frozen in
    let was = is y.b y.is.begun (record { may = was_frozen.may; layer = was_frozen.layer; page = was_frozen.page }) in
    subst (λ (node : Node). IsPageOf node p.layer p.page table) (same_source here) was
  where
    same_source : with_page y.b page.layer page.page ≡ b → node_at s.nodes y.b.source ≡ node_at s2.nodes b.source
    same_source here =
        sym (get_or-set_other s.nodes y.b.target y.b.source y.after _ (apart s y.b ok y.is.begun))
        ∙ sym (ap (λ (z : State). node_at z.nodes y.b.source) y.state) ∙ ap (λ (z : Rebuilding). node_at s2.nodes z.source) here

-- ---- a page that goes out

some_named : (ks : List Layer) (name : List ℕ) (block : ℕ) → has_own (own_named ks name) block ≡ true
    → is_some (block_named ks name block) ≡ true
some_named [] name block e = absurd (false≢true (sym (no_bits block) ∙ e))
  where
    no_bits : (block : ℕ) → has_own (own_named [] name) block ≡ false
    no_bits zero = refl
    no_bits (suc k) = refl
some_named (k ∷ ks) name block e = by (bytes_eq name k.meta.name) e (some_named ks name block)
  where
    by : (b : Bool) → has_own (cond b k.own (own_named ks name)) block ≡ true
        → (has_own (own_named ks name) block ≡ true → is_some (block_named ks name block) ≡ true)
        → is_some (cond b (own_block k.disk k.own block) (block_named ks name block)) ≡ true
    by true f rest = ap (λ t. is_some (cond t (Some (block_of k.disk block)) None)) f
    by false f rest = rest f

pub out_block : (node : Node) (page : PageRef) (table : Table) → HasBlockOf node page.layer page.page
    → IsPageOf node page.layer page.page table → HasBlock table
out_block node page table has is =
    let block = has.0 in
    let of : block / 512 ≡ page.page = grind (arith, nat_tests, has.1) in
    let here : page.page * 512 + block % 512 ≡ block = omega (arith, of) in (
      block % 512,
      omega arith,
      ap is_some (is (block % 512) (omega arith))
          ∙ ap (λ k. is_some (block_named node.layers page.layer k)) here ∙ some_named node.layers page.layer block has.2,
    )

pub out_page : (s : State) (page : PageRef) (old new : Table) → CopiesOut s page true old new → IsPageIn s page new
out_page s page old new out b begun frozen =
    subst (λ (x : Rebuilding). IsPageOf (node_at s.nodes x.source) page.layer page.page new)
    (same_open out.b b (sym out.is.begun ∙ begun)) out.out.1

pub out_none : (s : State) (page : PageRef) (old new : Table) → CopiesOut s page false old new → IsPageIn s page []
out_none s page old new out b begun frozen =
    subst (λ (x : Rebuilding). IsPageOf (node_at s.nodes x.source) page.layer page.page []) (same_open out.b b (sym out.is.begun ∙ begun))
    (bare_page (node_at s.nodes out.b.source) page.layer page.page [] out.out.0 none_there)
  where
    none_there : (i : ℕ) → place_at [] i ≡ None
    none_there zero = refl
    none_there (suc i) = refl
