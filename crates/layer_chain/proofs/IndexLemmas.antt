-- What is known of the blocks of a head, once a tree changes.
use Rattle.std.proofs.Common.{◌≡◌, ◌≢◌, ⊎_elim, ℕ, zero, suc, ◌+◌, ◌-◌, ◌/◌, ◌<◌, ◌≤◌, true, false, Bool, List, [], ◌∷◌, ◌++◌}
use Rattle.std.proofs.Common.{length, map, set, slice_index, slice_set, Option, None, Some, is_some, sym, refl, ap, ◌∙◌, subst, arith}
use Rattle.std.proofs.Common.{All, length-append, ◌==◌, if◌then◌else◌}
use Rattle.std.specs.Option.{option_map}
use Rattle.std.proofs.lemmas.Bool.{cases_eq, cases_lt}
use Rattle.std.proofs.lemmas.List.{length-map, map-append, length-set, get_or_past, get_or-set_same, get_or-set_other}
use Rattle.std.proofs.lemmas.Simd.{map-map}
use Rattle.location_map.specs.LocationMap.{index_without}
use Rattle.sparse_image.specs.declared.block.TheConstants.{PAGE_BLOCKS}
use Rattle.sparse_image.specs.Image.{Table, Tables, block_at, ChangesBlock, PutsTable}
use Rattle.vol_units.specs.Chain.{chain_from}
use Rattle.layer_chain.specs.Tree.{Tree, name_of, parent_of, layer_at, IsNew, IsThere, IsWholeTree}
use Rattle.layer_chain.specs.Changes.{pushed, with_head, with_layers, with_image, with_images, MovesPage, in_place_of}
use Rattle.layer_chain.specs.Changes.{taken_out, replaced}
use Rattle.layer_chain.specs.Children.{IsLeaf, IsOnlyChild}
use Rattle.layer_chain.specs.Found.{Index, IsIndexed, IsKnown, images_from, head_images, first_true, having, found_in}
use Rattle.layer_chain.specs.Found.{found_at, ages_from, index_of_age, images_of, ForgetsPage}
use Rattle.layer_chain.specs.declared.layer.Layer.{Layer}
use Rattle.layer_chain.proofs.ChainLaws.{IsShorter, chain-alike, ages-alike, ages-other}
use Rattle.layer_chain.proofs.Cuts.{CutAt, cut_at}
use Rattle.layer_chain.proofs.FoundLemmas.{images-other, length-images, images-aged, older-all, first-most}
use Rattle.layer_chain.proofs.FoldLemmas.{other_layer, replaced_chain, without_chain}
use Rattle.layer_chain.proofs.TreeLemmas.{layer_read}
use Rattle.layer_chain.proofs.TreeShape.{apart, on_back}

-- ---- the bytes

pub known_same : (old new : List Tables) (bytes : List ℕ) → ((block : ℕ) → found_in new block ≡ found_in old block)
    → IsKnown old bytes → IsKnown new bytes
known_same old new bytes same known = λ block n. known block n ∙ sym (same block)

-- of one page nothing is known, and elsewhere blocks are found where they were
pub known_forgot : (old new : List Tables) (bytes after : List ℕ) (page : ℕ) → ForgetsPage bytes after page
    → ((block : ℕ) → block / PAGE_BLOCKS ≢ page → found_in new block ≡ found_in old block) → IsKnown old bytes → IsKnown new after
known_forgot old new bytes after page forgets same known = λ block n.
    ⊎_elim
    (λ e. absurd (n (forgets.inside block e)))
    (λ o. let byte = forgets.others block o in byte ∙ known block (λ z. n (byte ∙ z)) ∙ sym (same block o))
    (cases_eq (block / PAGE_BLOCKS) page)

byte_past : (bytes : List ℕ) (block index : ℕ) → length bytes ≤ block → slice_index (slice_set bytes block index) block ≡ 0
byte_past bytes block index h =
    get_or_past (set bytes block index) block 0 (omega (arith, h, length-set bytes block index))

-- the byte of one block is right, and the others are found where they were
pub known_learned : (old new : List Tables) (bytes : List ℕ) (block index : ℕ) → index ≡ found_in new block
    → ((other : ℕ) → other ≢ block → found_in new other ≡ found_in old other) → IsKnown old bytes
    → IsKnown new (slice_set bytes block index)
known_learned old new bytes block index right same known = λ other n.
    ⊎_elim
    (λ e. ⊎_elim
    (λ within. rw e (get_or-set_same bytes block index 0 within ∙ right))
    (λ past. absurd (n (rw e (byte_past bytes block index past))))
    (cases_lt block (length bytes)))
    (λ o. let byte : slice_index (slice_set bytes block index) other ≡ slice_index bytes other =
    get_or-set_other bytes block other index 0 o in
    byte ∙ known other (λ z. n (byte ∙ z)) ∙ sym (same other o))
    (cases_eq other block)

-- ---- a search

-- each age is that of a layer
pub indexed_ages : (t : Tree) (index : Index) → IsIndexed t index → All (λ age. age < length t.layers) index.ages
indexed_ages t index i =
    subst (All (λ age. age < length t.layers)) (sym i.ages) (older-all t.layers t.on (length t.layers) (omega arith))

-- the layers of the ages are those below the head
pub indexed_images : (t : Tree) (index : Index) → IsIndexed t index → t.head ∷ images_of t.layers index.ages ≡ head_images t
indexed_images t index i =
    ap (λ (is : List Tables). t.head ∷ is) (ap (images_of t.layers) i.ages ∙ images-aged t.layers t.on)

pub indexed_count : (t : Tree) (index : Index) → IsIndexed t index → length (head_images t) ≡ length index.ages + 1
indexed_count t index i = omega (arith, length-images t.layers t.on, ap length i.ages)

pub indexed_learned : (t : Tree) (index : Index) (block found : ℕ) → found ≡ found_at t block → IsIndexed t index
    → IsIndexed t (record index { bytes = slice_set index.bytes block found })
indexed_learned t index block found right i = record {
  ages = i.ages;
  known = known_learned (head_images t) (head_images t) index.bytes block found right (λ other n. refl) i.known;
}

-- ---- one more layer

pub on_other_name : (on : Option (List ℕ)) (name : List ℕ) (xs : List Layer) → IsThere on xs → IsNew name xs → on ≢ Some name
on_other_name None name xs there new e = absurd (cc)
on_other_name (Some on) name xs there new e =
    let same : on ≡ name = cc in apart name_of parent_of name on xs new there same

pub pushed_whole : (t : Tree) (layer : Layer) → length t.layers + 1 < 250 → IsNew (name_of layer) t.layers
    → IsThere (parent_of layer) t.layers → IsWholeTree t → IsWholeTree (pushed t layer)
pushed_whole t layer room new parent w = record {
  layers = (new, parent, w.layers);
  head = on_back name_of parent_of t.on (layer ∷ []) t.layers w.head;
  few = omega (arith, room);
}

pub indexed_pushed : (t : Tree) (layer : Layer) (index : Index) → t.on ≢ Some (name_of layer) → IsIndexed t index
    → IsIndexed (pushed t layer) index
indexed_pushed t layer index other i = record {
  ages = i.ages ∙ sym (ages-other name_of parent_of t.on layer t.layers other);
  known = subst (λ (is : List Tables). IsKnown (t.head ∷ is) index.bytes) (sym (images-other layer t.layers t.on other)) i.known;
}

-- ---- other blocks in a layer

abbrev own : ℕ → Layer → Bool
own block l = is_some (block_at l.image block)

fused : (layers : List Layer) (block : ℕ) → having (map (λ (l : Layer). l.image) layers) block ≡ map (own block) layers
fused layers block = map-map (λ (i : Tables). is_some (block_at i block)) (λ (l : Layer). l.image) layers

module _ (xs : List Layer) (i : ℕ) (d : Layer) (within : i < length xs) (d_name : name_of d ≡ name_of (layer_at xs i))
    (d_parent : parent_of d ≡ parent_of (layer_at xs i)) (want : Option (List ℕ)) where
  abbrev c : Layer
  c = layer_at xs i

  abbrev k : CutAt xs i c
  k = cut_at xs i c within

  cut_is : xs ≡ k.before ++ (c ∷ k.after)
  cut_is = k.is ∙ ap (λ (x : Layer). k.before ++ (x ∷ k.after)) (sym (layer_read xs i within))

  pub having_set : (block : ℕ) → is_some (block_at d.image block) ≡ is_some (block_at c.image block)
      → having (images_from (set xs i d) want) block ≡ having (images_from xs want) block
  having_set block same =
      fused (chain_from name_of parent_of (set xs i d) want) block
      ∙ ap (λ (ys : List Layer). map (own block) (chain_from name_of parent_of ys want)) (k.with_other d)
      ∙ chain-alike name_of parent_of (own block) k.before k.after c d d_name d_parent same want
      ∙ sym (ap (λ (ys : List Layer). map (own block) (chain_from name_of parent_of ys want)) cut_is)
      ∙ sym (fused (chain_from name_of parent_of xs want) block)

  pub ages_set : ages_from (set xs i d) want ≡ ages_from xs want
  ages_set =
      ap (λ (ys : List Layer). ages_from ys want) (k.with_other d)
      ∙ ages-alike name_of parent_of k.before k.after c d d_name d_parent want
      ∙ sym (ap (λ (ys : List Layer). ages_from ys want) cut_is)

-- where the head has what it had, and so do the layers below it
pub found_alike : (head : Tables) (old new : List Tables) (block : ℕ) → having new block ≡ having old block
    → found_in (head ∷ new) block ≡ found_in (head ∷ old) block
found_alike head old new block same = ap (λ (bs : List Bool). first_true (is_some (block_at head block) ∷ bs)) same

module _ (xs : List Layer) (p c : ℕ) (under over : Tables) (above : c < p) (in_p : p < length xs) (want : Option (List ℕ)) where
  abbrev d : Layer
  d = with_image (layer_at xs c) over

  abbrev q : Layer
  q = with_image (layer_at xs p) under

  in_c : c < length xs
  in_c = omega (arith, above, in_p)

  in_set : p < length (set xs c d)
  in_set = omega (arith, in_p, length-set xs c d)

  same_p : layer_at (set xs c d) p ≡ layer_at xs p
  same_p = other_layer xs p c d above in_p

  pub having_images : (block : ℕ) → block_at over block ≡ block_at (layer_at xs c).image block
      → block_at under block ≡ block_at (layer_at xs p).image block
      → having (images_from (with_images xs p c under over) want) block ≡ having (images_from xs want) block
  having_images block over_same under_same =
      having_set (set xs c d) p q in_set (sym (ap name_of same_p)) (sym (ap parent_of same_p)) want block
      (ap is_some under_same ∙ sym (ap (own block) same_p))
      ∙ having_set xs c d in_c refl refl want block (ap is_some over_same)

  pub ages_images : ages_from (with_images xs p c under over) want ≡ ages_from xs want
  ages_images =
      ages_set (set xs c d) p q in_set (sym (ap name_of same_p)) (sym (ap parent_of same_p)) want
      ∙ ages_set xs c d in_c refl refl want

-- a layer of the same name and parent that has the same blocks takes another's place
pub indexed_set : (t : Tree) (i : ℕ) (d : Layer) (index : Index) → i < length t.layers
    → name_of d ≡ name_of (layer_at t.layers i) → parent_of d ≡ parent_of (layer_at t.layers i)
    → d.image ≡ (layer_at t.layers i).image → IsIndexed t index → IsIndexed (with_layers t (set t.layers i d)) index
indexed_set t i d index within d_name d_parent d_image is = record {
  ages = is.ages ∙ sym (ages_set t.layers i d within d_name d_parent t.on);
  known = known_same (head_images t) (head_images (with_layers t (set t.layers i d))) index.bytes
      (λ block. found_alike t.head (images_from t.layers t.on) (images_from (set t.layers i d) t.on) block
      (having_set t.layers i d within d_name d_parent t.on block (ap (λ (x : Tables). is_some (block_at x block)) d_image)))
      is.known;
}

-- the layers have what they had but in one page, of which the index knows nothing
pub indexed_forgot : (t : Tree) (layers : List Layer) (index after : Index) (page : ℕ) → ForgetsPage index.bytes after.bytes page
    → after.ages ≡ index.ages → ages_from layers t.on ≡ ages_from t.layers t.on
    → ((block : ℕ) → block / PAGE_BLOCKS ≢ page
    → having (images_from layers t.on) block ≡ having (images_from t.layers t.on) block)
    → IsIndexed t index → IsIndexed (with_layers t layers) after
indexed_forgot t layers index after page forgets kept ages same i = record {
  ages = kept ∙ i.ages ∙ sym ages;
  known = known_forgot (head_images t) (head_images (with_layers t layers)) index.bytes after.bytes page forgets
      (λ block o. found_alike t.head (images_from t.layers t.on) (images_from layers t.on) block (same block o)) i.known;
}

pub indexed_moves : (t : Tree) (new : List Layer) (p c page : ℕ) (index after : Index) → c < p → p < length t.layers
    → MovesPage t.layers new p c page → ForgetsPage index.bytes after.bytes page → after.ages ≡ index.ages
    → IsIndexed t index
    → IsIndexed (with_layers t (with_images t.layers p c (layer_at new p).image (layer_at new c).image)) after
indexed_moves t new p c page index after above in_p moves forgets kept =
    let under = (layer_at new p).image in
    let over = (layer_at new c).image in
    indexed_forgot t (with_images t.layers p c under over) index after page forgets kept
    (ages_images t.layers p c under over above in_p t.on)
    (λ block o. having_images t.layers p c under over above in_p t.on block (moves.child.others block o) (moves.parent.others block o))

pub indexed_puts : (t : Tree) (place page : ℕ) (image : Tables) (table : Table) (index after : Index) → place < length t.layers
    → PutsTable (layer_at t.layers place).image image page table → ForgetsPage index.bytes after.bytes page
    → after.ages ≡ index.ages → IsIndexed t index
    → IsIndexed (with_layers t (set t.layers place (with_image (layer_at t.layers place) image))) after
indexed_puts t place page image table index after within puts forgets kept =
    let d = with_image (layer_at t.layers place) image in
    indexed_forgot t (set t.layers place d) index after page forgets kept
    (ages_set t.layers place d within refl refl t.on)
    (λ block o. having_set t.layers place d within refl refl t.on block (ap is_some (puts.others block o)))

-- ---- a layer that goes

-- the chain is as it was
indexed_kept : (t : Tree) (layers : List Layer) (bytes : List ℕ)
    → chain_from name_of parent_of layers t.on ≡ chain_from name_of parent_of t.layers t.on → IsKnown (head_images t) bytes
    → IsIndexed (with_layers t layers) (record { ages = ages_from layers t.on; bytes = bytes })
indexed_kept t layers bytes same known = record {
  ages = refl;
  known = subst (λ (ls : List Layer). IsKnown (t.head ∷ map (λ (l : Layer). l.image) ls) bytes) (sym same) known;
}

pub indexed_without : (t : Tree) (p : ℕ) (index : Index) → p < length t.layers → IsLeaf t p → IsIndexed t index
    → IsIndexed (taken_out t p) (record { ages = ages_from (taken_out t p).layers t.on; bytes = index.bytes })
indexed_without t p index in_p leaf i = indexed_kept t (taken_out t p).layers index.bytes (without_chain t p in_p leaf) i.known

-- one less is below the first that is true, or it is that one
first_without : (above : List Bool) (b : Bool) (below : List Bool) → first_true (above ++ (b ∷ below)) ≢ suc (length below)
    → first_true (above ++ below) ≡ index_without (suc (length below)) (first_true (above ++ (b ∷ below)))
first_without [] true below other = absurd (other refl)
first_without [] false below other = let most = first-most below in grind (arith, most)
first_without (true ∷ above) b below other =
    let long = length-append above (b ∷ below) in let short = length-append above below in grind (arith, long, short)
first_without (false ∷ above) b below other = first_without above b below other

byte_without : (bytes : List ℕ) (gone block : ℕ)
    → slice_index (map (index_without gone) bytes) block ≡ index_without gone (slice_index bytes block)
byte_without [] gone block = grind arith
byte_without (x ∷ bytes) gone zero = refl
byte_without (x ∷ bytes) gone (suc block) = byte_without bytes gone block

gone_unknown : (gone : ℕ) → index_without gone gone ≡ 0
gone_unknown gone = grind arith

none_unknown : (gone : ℕ) → index_without gone 0 ≡ 0
none_unknown gone = grind arith

-- each byte is renumbered
known_renumbered : (old new : List Tables) (bytes : List ℕ) (gone : ℕ)
    → ((block : ℕ) → found_in old block ≢ gone → found_in new block ≡ index_without gone (found_in old block))
    → IsKnown old bytes → IsKnown new (map (index_without gone) bytes)
known_renumbered old new bytes gone renumbered known = λ block n.
    let byte = byte_without bytes gone block in
    let right : slice_index bytes block ≡ found_in old block =
    known block (λ z. n (byte ∙ ap (index_without gone) z ∙ none_unknown gone)) in
    byte ∙ ap (index_without gone) right
    ∙ sym (renumbered block (λ g. n (byte ∙ ap (index_without gone) (right ∙ g) ∙ gone_unknown gone)))

-- the bytes once the layer of that index has gone; 0 is none
abbrev pub bytes_without : ℕ → List ℕ → List ℕ
bytes_without gone bytes = if gone == 0 then bytes else map (index_without gone) bytes

renumbers : (gone : ℕ) (bytes : List ℕ) → gone ≢ 0 → map (index_without gone) bytes ≡ bytes_without gone bytes
renumbers gone bytes n =
    let other : (gone == 0) ≡ false = grind arith in
    sym (ap (λ (b : Bool). if b then bytes else map (index_without gone) bytes) other)

module _ (t : Tree) (p c : ℕ) (index : Index) (w : IsWholeTree t) (in_p : p < length t.layers) (only : IsOnlyChild t p c)
    (i : IsIndexed t index) where
  abbrev lower : Layer
  lower = layer_at t.layers p

  abbrev upper : Layer
  upper = layer_at t.layers c

  abbrev next : List Layer
  next = (replaced t p c).layers

  abbrev chain_of : List Layer → List Layer
  chain_of layers = chain_from name_of parent_of layers t.on

  abbrev gone : ℕ
  gone = index_of_age (ages_from t.layers t.on) (length t.layers - 1 - c)

  shorter : IsShorter (chain_of t.layers) (chain_of next) gone upper lower (in_place_of upper lower)
      → IsKnown (head_images (replaced t p c)) (map (index_without gone) index.bytes)
  shorter s = known_renumbered (head_images t) (head_images (replaced t p c)) index.bytes gone
      (λ block other.
      let above = is_some (block_at t.head block) ∷ map (own block) s.above in
      let below = own block lower ∷ map (own block) s.below in
      let was : having (head_images t) block ≡ above ++ (own block upper ∷ below) =
      ap (λ bs. is_some (block_at t.head block) ∷ bs) (fused (chain_of t.layers) block ∙ ap (map (own block)) s.was
      ∙ map-append (own block) s.above (upper ∷ (lower ∷ s.below))) in
      let is : having (head_images (replaced t p c)) block ≡ above ++ below =
      ap (λ bs. is_some (block_at t.head block) ∷ bs) (fused (chain_of next) block ∙ ap (map (own block)) s.is
      ∙ map-append (own block) s.above (in_place_of upper lower ∷ s.below)) in
      let place : suc (length below) ≡ gone = ap (λ n. suc (suc n)) (length-map s.below (own block)) ∙ sym s.place in
      ap first_true is
      ∙ first_without above (own block upper) below (λ e. other (ap first_true was ∙ e ∙ place))
      ∙ ap (λ n. index_without n (first_true (above ++ (own block upper ∷ below)))) place
      ∙ sym (ap (λ bs. index_without gone (first_true bs)) was))
      i.known

  pub known_replaced : IsKnown (head_images (replaced t p c)) (bytes_without gone index.bytes)
  known_replaced =
      ⊎_elim
      (λ s. subst (IsKnown (head_images (replaced t p c)))
      (renumbers gone index.bytes (λ z. absurd (omega (arith, z, s.place)))) (shorter s))
      (λ s. subst (λ (n : ℕ). IsKnown (head_images (replaced t p c)) (bytes_without n index.bytes)) (sym s.place)
      (indexed_kept t next index.bytes s.is i.known).known)
      (replaced_chain t p c w in_p only)

  pub indexed_replaced : (after : Index) (number : ℕ) → number ≡ index_of_age index.ages (length t.layers - 1 - c)
      → after.bytes ≡ bytes_without number index.bytes → after.ages ≡ ages_from next t.on → IsIndexed (replaced t p c) after
  indexed_replaced after number is bytes ages = record {
    ages = ages;
    known = subst (IsKnown (head_images (replaced t p c))) (sym (bytes ∙ ap (λ n. bytes_without n index.bytes)
        (is ∙ ap (λ (ns : List ℕ). index_of_age ns (length t.layers - 1 - c)) i.ages))) known_replaced;
  }

-- ---- a block of the head

pub some_map : (f : List ℕ → List ℕ) (o : Option (List ℕ)) → is_some (option_map f o) ≡ is_some o
some_map f None = refl
some_map f (Some b) = refl

pub indexed_put : (t : Tree) (head : Tables) (block : ℕ) (after : Option (List ℕ)) (index : Index)
    → ChangesBlock t.head head block after → is_some after ≡ true → IsIndexed t index
    → IsIndexed (with_head t head) (record index { bytes = slice_set index.bytes block (length index.ages + 1) })
indexed_put t head block after index changes there i =
    let layers = images_from t.layers t.on in
    let here : length index.ages + 1 ≡ found_in (head ∷ layers) block =
    sym (ap (λ (b : Bool). first_true (b ∷ having layers block)) (ap is_some changes.here ∙ there)
    ∙ ap suc (length-map layers (λ (x : Tables). is_some (block_at x block)) ∙ length-images t.layers t.on ∙ sym (ap length i.ages))
    ∙ omega arith) in
    record {
      ages = i.ages;
      known = known_learned (t.head ∷ layers) (head ∷ layers) index.bytes block (length index.ages + 1) here
          (λ other n. ap (λ (o : Option (List ℕ)). first_true (is_some o ∷ having layers other)) (changes.others other n)) i.known;
    }
