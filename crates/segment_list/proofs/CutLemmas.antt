-- Where an element of the list stands in its segments.
use Rattle.std.proofs.Common.{◌≡◌, ℕ, zero, suc, ◌+◌, ◌-◌, ◌*◌, ◌/◌, ◌%◌, ◌<◌, ◌≤◌, ◌^◌, min, List, [], ◌∷◌, ◌++◌, length}
use Rattle.std.proofs.Common.{get_or, set, take, drop, Vec, slice_get, Some, refl, sym, ap, subst, ◌∙◌, arith}
use Rattle.std.proofs.Common.{append-nil, append_assoc, length-append, length-set, length-drop, add-zero}
use Rattle.std.specs.Vec.{vec_items, vec_len, vec_capacity}
use Rattle.std.proofs.Math.Nat.{mul-le-mul_left}
use Rattle.std.proofs.Math.Seq.{drop-append-add, take-append_seam, take-add}
use Rattle.std.proofs.lemmas.List.Concat.{flat_map-append}
use Rattle.std.proofs.lemmas.List.{nil_from_length, drop-append-le, get_or-take, get_or-drop}
use Rattle.std.proofs.lemmas.Option.{slice_get-get_or}
use Rattle.segment_list.specs.Listed.{IsPiece}
use Rattle.segment_list.specs.Cut.{items_of, IsCut, IsWhole}

-- which segment a place is in
pub spot : (size len room n i : ℕ) → 0 < size → len + room ≡ size * n → i < len + room
    → (i / size < n) × (i % size < size) × (i ≡ size * (i / size) + i % size)
spot size len room n i some whole inside =
    let k = i / size in
    let r : i % size < size = omega arith in
    let is : i ≡ size * k + i % size = omega arith in
    (below k is, r, is)
  where
    below : (k : ℕ) → i ≡ size * k + i % size → k < n
    below k is = grind (arith, mul-le-mul_left)

module _ {T Z : Type 0} where
  -- the same share, counted otherwise
  cut_as : (size n m : ℕ) (vs : List (Vec T Z)) → IsCut size n vs → n ≡ m → IsCut size m vs
  cut_as size n m vs cut same = subst (λ x. IsCut size x vs) same cut

  -- segments that have nothing
  cut_none : (size : ℕ) (vs : List (Vec T Z)) → IsCut size 0 vs → items_of vs ≡ []
  cut_none size [] cut = refl
  cut_none size (v ∷ vs) cut =
      let empty : length (vec_items v) ≡ 0 = omega (arith, v.ok.0, cut.0) in
      ap (λ l. l ++ items_of vs) (nil_from_length (vec_items v) empty)
      ∙ cut_none size vs (cut_as size (0 - size) 0 vs cut.2 (omega arith))

  pub cut_length : (size len : ℕ) (vs : List (Vec T Z)) → IsCut size len vs → length (items_of vs) ≡ len
  cut_length size len [] cut = sym cut
  cut_length size len (v ∷ vs) cut =
      let rest = cut_length size (len - size) vs cut.2 in
      omega (arith, v.ok.0, cut.0, rest, length-append (vec_items v) (items_of vs))

  -- the segment at k has its share
  pub spot_len : (size k len : ℕ) (vs : List (Vec T Z)) (v : Vec T Z) → IsCut size len vs → k < length vs
      → v ≡ get_or vs k v → (vec_len v ≡ min size (len - size * k)) × (size ≤ vec_capacity v)
  spot_len size k len [] v cut inside is = absurd (omega arith)
  spot_len size zero len (w ∷ vs) v cut inside is = rw is (omega (arith, cut.0), cut.1)
  spot_len size (suc k) len (w ∷ vs) v cut inside is =
      let rest = spot_len size k (len - size) vs v cut.2 (omega arith) is in
      (omega (arith, rest.0), rest.1)

  -- from a place on, the list goes on with its segment
  pub spot_drop : (size k r len : ℕ) (vs : List (Vec T Z)) (v : Vec T Z) → IsCut size len vs → k < length vs
      → v ≡ get_or vs k v → size * k ≤ len → r ≤ vec_len v
      → (rest : List T) × (drop (size * k + r) (items_of vs) ≡ drop r (vec_items v) ++ rest)
  spot_drop size k r len [] v cut inside is far within = absurd (omega arith)
  spot_drop size zero r len (w ∷ vs) v cut inside is far within =
      let short : r ≤ length (vec_items w) = omega (arith, w.ok.0, ap vec_len is) in
      let same : size * 0 + r ≡ r = omega arith in (
        items_of vs,
        ap (λ n. drop n (vec_items w ++ items_of vs)) same ∙ drop-append-le r (vec_items w) (items_of vs) short
            ∙ ap (λ u. drop r (vec_items u) ++ items_of vs) (sym is),
      )
  spot_drop size (suc k) r len (w ∷ vs) v cut inside is far within =
      let rest = spot_drop size k r (len - size) vs v cut.2 (omega arith) is (omega arith) within in
      let there : size * suc k + r ≡ length (vec_items w) + (size * k + r) = omega (arith, w.ok.0, cut.0) in (
        rest.0,
        ap (λ n. drop n (vec_items w ++ items_of vs)) there
            ∙ drop-append-add (vec_items w) (items_of vs) (size * k + r) ∙ rest.1,
      )

  -- elements more in the segment that is not full
  pub put_items : (size k r len : ℕ) (vs : List (Vec T Z)) (v w : Vec T Z) (more : List T) → IsCut size len vs → k < length vs
      → v ≡ get_or vs k v → len ≡ size * k + r → r + length more ≤ size
      → vec_items w ≡ vec_items v ++ more → vec_capacity v ≤ vec_capacity w
      → IsCut size (len + length more) (set vs k w) × (items_of (set vs k w) ≡ items_of vs ++ more)
  put_items size k r len [] v w more cut inside is at fits pushed room = absurd (omega arith)
  put_items size zero r len (u ∷ vs) v w more cut inside is at fits pushed room =
      let put : length (vec_items w) ≡ length (vec_items v) + length more = ap length pushed ∙ length-append (vec_items v) more in
      let long : vec_len w ≡ vec_len u + length more = omega (arith, w.ok.0, u.ok.0, put, ap (λ x. length (vec_items x)) is) in
      let none : items_of vs ≡ [] = cut_none size vs (cut_as size (len - size) 0 vs cut.2 (omega arith)) in
      let rest = cut_as size (len - size) (len + length more - size) vs cut.2 (omega arith) in
      let old : vec_items u ++ items_of vs ≡ vec_items v =
      ap (λ l. vec_items u ++ l) none ∙ append-nil (vec_items u) ∙ sym (ap vec_items is) in (
        (omega (arith, long, cut.0), omega (arith, cut.1, room, ap vec_capacity is), rest),
        ap (λ l. vec_items w ++ l) none ∙ append-nil (vec_items w) ∙ pushed ∙ ap (λ l. l ++ more) (sym old),
      )
  put_items size (suc k) r len (u ∷ vs) v w more cut inside is at fits pushed room =
      let rest = put_items size k r (len - size) vs v w more cut.2 (omega arith) is (omega arith) fits pushed room in
      let next : len - size + length more ≡ len + length more - size = omega arith in (
        (omega (arith, cut.0), cut.1, cut_as size _ _ (set vs k w) rest.0 next),
        ap (λ l. vec_items u ++ l) rest.1 ∙ sym (append_assoc (vec_items u) (items_of vs) more),
      )

  -- one segment more
  pub cut-append : (size len : ℕ) (vs : List (Vec T Z)) (v : Vec T Z) → IsCut size len vs → vec_len v ≡ 0
      → size ≤ vec_capacity v → IsCut size len (vs ++ v ∷ [])
  cut-append size len [] v cut empty room = (omega (arith, cut), room, omega (arith, cut))
  cut-append size len (w ∷ vs) v cut empty room = (cut.0, cut.1, cut-append size (len - size) vs v cut.2 empty room)

-- how the segment of a place lies in the list
pub record IsSpot {T Z : Type 0} (size len i : ℕ) (vs : List (Vec T Z)) (v : Vec T Z) : Type 0 where
  pub inside : i / size < length vs
  pub share : vec_len v ≡ min size (len - size * (i / size))
  pub room : size ≤ vec_capacity v
  pub within : i % size < size
  pub is : i ≡ size * (i / size) + i % size

module _ {T Z : Type 0} where
  pub spot_of : (size len room i : ℕ) (vs : List (Vec T Z)) (v : Vec T Z) → IsWhole size len room vs → i < len + room
      → v ≡ get_or vs (i / size) v → IsSpot size len i vs v
  spot_of size len room i vs v whole inside is =
      let at = spot size len room (length vs) i whole.some whole.whole inside in
      let there = spot_len size (i / size) len vs v whole.cut at.0 is in
      record { inside = at.0; share = there.0; room = there.1; within = at.1; is = at.2 }

  -- one segment more
  pub whole-append : (size len room : ℕ) (vs : List (Vec T Z)) (v : Vec T Z) (ws : List (Vec T Z)) → IsWhole size len room vs
      → vec_len v ≡ 0 → size ≤ vec_capacity v → len + room + size < 2 ^ 63 → ws ≡ vs ++ v ∷ []
      → IsWhole size len (room + size) ws
  whole-append size len room vs v ws whole empty more fits is =
      rw is (record {
        some = whole.some;
        cut = cut-append size len vs v whole.cut empty more;
        whole = rw length-append (omega (arith, whole.whole));
        fits = omega (arith, fits);
      })

  pub items-append : (vs : List (Vec T Z)) (v : Vec T Z) → vec_len v ≡ 0 → items_of (vs ++ v ∷ []) ≡ items_of vs
  items-append vs v empty =
      flat_map-append vec_items vs (v ∷ [])
      ∙ ap (λ l. items_of vs ++ (l ++ [])) (nil_from_length (vec_items v) (omega (arith, v.ok.0, empty)))
      ∙ append-nil (items_of vs)

  -- elements more
  pub whole_put : (size len room n : ℕ) (vs : List (Vec T Z)) (v w : Vec T Z) (more : List T) → IsWhole size len room vs
      → v ≡ get_or vs (len / size) v → length more ≡ n → 0 < n → n ≤ room → len % size + n ≤ size
      → vec_items w ≡ vec_items v ++ more → vec_capacity v ≤ vec_capacity w
      → IsWhole size (len + n) (room - n) (set vs (len / size) w) × (items_of (set vs (len / size) w) ≡ items_of vs ++ more)
  whole_put size len room n vs v w more whole is long some enough fits pushed kept =
      let at = spot_of size len room len vs v whole (omega arith) is in
      let short : len % size + length more ≤ size = omega arith in
      let put = put_items size (len / size) (len % size) len vs v w more whole.cut at.inside is at.is short pushed kept in (
        record {
          some = whole.some;
          cut = rw (← long) put.0;
          whole = rw length-set (omega (arith, whole.whole));
          fits = omega (arith, whole.fits);
        },
        put.1,
      )

  -- what a segment has from a place on
  pub piece_of : (size len room i : ℕ) (vs : List (Vec T Z)) (v : Vec T Z) → IsWhole size len room vs
      → i < length (items_of vs) → v ≡ get_or vs (i / size) v → IsPiece i (items_of vs) (drop (i % size) (vec_items v))
  piece_of size len room i vs v whole inside is =
      let long = cut_length size len vs whole.cut in
      let at = spot_of size len room i vs v whole (omega arith) is in
      let far : i % size < vec_len v = omega (arith, at.share, at.within, at.is) in
      let there = spot_drop size (i / size) (i % size) len vs v whole.cut at.inside is (omega (arith, at.is)) (omega arith) in
      let p = drop (i % size) (vec_items v) in
      let cut : drop i (items_of vs) ≡ p ++ there.0 = ap (λ n. drop n (items_of vs)) at.is ∙ there.1 in
      let some : 0 < length p = rw length-drop (omega (arith, v.ok.0)) in
      record {
        some = some;
        is = ap (take (length p)) {y = p ++ there.0} cut ∙ take-append_seam p there.0;
        within = omega (arith, length-drop i (items_of vs), ap length cut, length-append p there.0);
      }

pub piece_first : {T : Type 0} (i : ℕ) (items p : List T) (x : T) → IsPiece i items p → x ≡ get_or p 0 x
    → slice_get items i ≡ Some x
piece_first i items p x piece is =
    let first : get_or (take (length p) (drop i items)) 0 x ≡ get_or (drop i items) 0 x =
    get_or-take (length p) (drop i items) 0 x piece.some in
    let there : get_or (drop i items) 0 x ≡ get_or items i x = get_or-drop i items 0 x ∙ ap (λ n. get_or items n x) (add-zero i) in
    slice_get-get_or items i x (omega (arith, piece.some, piece.within))
    ∙ ap Some (sym (is ∙ ap (λ l. get_or l 0 x) (sym piece.is) ∙ first ∙ there))

-- a piece behind what comes before it
pub take_piece : {T : Type 0} (i : ℕ) (items p : List T) → IsPiece i items p → take i items ++ p ≡ take (i + length p) items
take_piece i items p piece = ap (λ l. take i items ++ l) (sym piece.is) ∙ sym (take-add i (length p) items)
