-- The bytes of a map as they are kept: known ones, and behind them so many that are 0; and what each call does to them.
use Rattle.std.proofs.Common.{◌≡◌, ℕ, ⊎_elim, zero, suc, ◌+◌, ◌-◌, ◌<◌, ◌≤◌, List, [], ◌∷◌, ◌++◌, length, map, take, drop, set}
use Rattle.std.proofs.Common.{get_or, slice_index, replicate, sym, refl, ap, ◌∙◌, arith, append_assoc, length-append, length-drop, rules}
use Rattle.std.proofs.lemmas.Bool.{cases_lt}
use Rattle.std.proofs.lemmas.List.{take_all, length-map, length-take-le, map_more, drop_more, get_or_at, set_at, set-append_left}
use Rattle.std.proofs.lemmas.List.{map-append, replicate-append-replicate, length-replicate, places}
use Rattle.vol_units.specs.declared.range.BlockRange.{BlockRange}
use Rattle.vol_units.specs.Range.{HasBlock}
use Rattle.location_map.specs.LocationMap.{index_without, Forgets}

-- so many bytes of 0
abbrev pub unknown : ℕ → List ℕ
unknown count = replicate count 0

-- how many bytes there are
pub length-view : (known now : List ℕ) (len count : ℕ) → len ≡ length known → len ≤ count → known ++ unknown (count - len) ≡ now
    → length now ≡ count
length-view known now len count is_len most view =
    omega (arith, ap length view, length-append known (unknown (count - len)), length-replicate {A = ℕ} (count - len) 0)

-- a byte behind the known ones is 0, and so is one that is not there
byte-unknown : (count k : ℕ) → slice_index (unknown count) k ≡ 0
byte-unknown zero k = refl
byte-unknown (suc count) zero = refl
byte-unknown (suc count) (suc k) = byte-unknown count k

byte-known : (known : List ℕ) (count k : ℕ) → slice_index (known ++ unknown count) k ≡ slice_index known k
byte-known [] count k = byte-unknown count k
byte-known (x ∷ known) count zero = refl
byte-known (x ∷ known) count (suc k) = byte-known known count k

-- ---- a block that is learned

-- the known bytes, with so many of those behind them
pub known_up_to : (known : List ℕ) (len end count : ℕ) → len ≡ length known → len ≤ end → end ≤ count
    → (take end known ++ unknown (end - len)) ++ unknown (count - end) ≡ known ++ unknown (count - len)
known_up_to known len end count is_len behind inside =
    let sum : end - len + (count - end) ≡ count - len = omega arith in
    ap (λ xs. (xs ++ unknown (end - len)) ++ unknown (count - end)) (take_all end known (omega arith))
    ∙ append_assoc known (unknown (end - len)) (unknown (count - end))
    ∙ ap (λ xs. known ++ xs) (replicate-append-replicate (end - len) (count - end) 0 ∙ ap unknown sum)

pub learns_known : (known now : List ℕ) (count block index : ℕ) → block < length known → known ++ unknown count ≡ now
    → set known block index ++ unknown count ≡ set now block index
learns_known known now count block index inside view =
    sym (set-append_left known (unknown count) block index inside) ∙ ap (λ xs. set xs block index) view

-- ---- blocks of which nothing is known any more

-- the known bytes, so many of them 0 from a place on
abbrev pub cleared : List ℕ → ℕ → ℕ → List ℕ
cleared known first count = take first known ++ (unknown count ++ drop count (drop first known))

-- what stands there once zeros were written over a part
pub zeros_put : (known now zeros : List ℕ) (first count : ℕ) → now ≡ known → first + count ≤ length known
    → zeros ≡ unknown (length (take count (drop first now)))
    → take first now ++ (zeros ++ drop count (drop first now)) ≡ cleared known first count
zeros_put known now zeros first count same inside are_zeros =
    let len : length (take count (drop first now)) ≡ count =
    length-take-le count (drop first now) (omega (arith, length-drop first now, ap length same)) in
    ap (λ ys. take first now ++ (ys ++ drop count (drop first now))) (are_zeros ∙ ap unknown len)
    ∙ ap (λ xs. cleared xs first count) same

pub length-cleared : (known : List ℕ) (first count : ℕ) → first + count ≤ length known → length (cleared known first count) ≡ length known
length-cleared known first count inside = search (rules, places)

below_cleared : (known : List ℕ) (first count k : ℕ) → first + count ≤ length known → k < first
    → slice_index (cleared known first count) k ≡ slice_index known k
below_cleared known first count k inside below = search (rules, places)

in_cleared : (known : List ℕ) (first count k : ℕ) → first + count ≤ length known → first ≤ k → k < first + count
    → slice_index (cleared known first count) k ≡ 0
in_cleared known first count k inside from to = search (rules, places)

behind_cleared : (known : List ℕ) (first count k : ℕ) → first + count ≤ length known → first + count ≤ k
    → slice_index (cleared known first count) k ≡ slice_index known k
behind_cleared known first count k inside behind = search (rules, places)

-- a range that ends among the known bytes
others_cleared : (known : List ℕ) (range : BlockRange) (block : ℕ) → range.first < range.end → range.end ≤ length known
    → ¬ (HasBlock range block) → slice_index (cleared known range.first (range.end - range.first)) block ≡ slice_index known block
others_cleared known range block some inside outside =
    ⊎_elim
    (λ below. below_cleared known range.first (range.end - range.first) block (omega arith) below)
    (λ above. ⊎_elim
    (λ within. absurd (outside (above, within)))
    (λ behind. behind_cleared known range.first (range.end - range.first) block (omega arith) (omega arith))
    (cases_lt block range.end))
    (cases_lt block range.first)

pub forgets_cleared : (known now : List ℕ) (range : BlockRange) (count : ℕ) → range.first < range.end → range.end ≤ length known
    → known ++ unknown count ≡ now → Forgets now (cleared known range.first (range.end - range.first) ++ unknown count) range
forgets_cleared known now range count some inside view =
    let new = cleared known range.first (range.end - range.first) in
    let old_byte = λ (block : ℕ). ap (λ xs. slice_index xs block) (sym view) ∙ byte-known known count block in
    record {
      count = length-append new (unknown count)
          ∙ ap (λ n. n + length (unknown count)) (length-cleared known range.first (range.end - range.first) (omega arith))
          ∙ sym (length-append known (unknown count)) ∙ ap length view;
      inside = λ block within. byte-known new count block
          ∙ in_cleared known range.first (range.end - range.first) block (omega arith) within.0 (omega (arith, within.1));
      others = λ block outside. byte-known new count block ∙ others_cleared known range block some inside outside ∙ sym (old_byte block);
    }

-- ---- a layer that went

-- where nothing is known, nothing is known after it
index_without-unknown : (gone : ℕ) → index_without gone 0 ≡ 0
index_without-unknown gone = grind arith

map-unknown : (gone count : ℕ) → map (index_without gone) (unknown count) ≡ unknown count
map-unknown gone zero = refl
map-unknown gone (suc count) =
    ap (λ x. x ∷ map (index_without gone) (unknown count)) (index_without-unknown gone) ∙ ap (λ xs. 0 ∷ xs) (map-unknown gone count)

pub map-known : (gone : ℕ) (known : List ℕ) (count : ℕ)
    → map (index_without gone) (known ++ unknown count) ≡ map (index_without gone) known ++ unknown count
map-known gone known count =
    map-append (index_without gone) known (unknown count) ∙ ap (λ xs. map (index_without gone) known ++ xs) (map-unknown gone count)

-- bytes that change one after another
pub changed_more : (f : ℕ → ℕ) (old new : List ℕ) (i : ℕ) → i < length old → new ≡ map f (take i old) ++ drop i old
    → set new i (f (get_or new i 0)) ≡ map f (take (i + 1) old) ++ drop (i + 1) old
changed_more f old new i inside so_far =
    let x : ℕ = get_or old i 0 in
    let front : List ℕ = map f (take i old) in
    let rest : List ℕ = drop (i + 1) old in
    let split : new ≡ front ++ x ∷ rest = so_far ∙ ap (λ xs. front ++ xs) (drop_more old i 0 inside) in
    let len : length front ≡ i = length-map (take i old) f ∙ length-take-le i old (omega arith) in
    let here : get_or new i 0 ≡ x = ap (λ xs. get_or xs i 0) split ∙ get_or_at front x rest 0 i len in
    ap (λ y. set new i (f y)) here
    ∙ ap (λ xs. set xs i (f x)) split
    ∙ set_at front x rest (f x) i len
    ∙ sym (append_assoc front (f x ∷ []) rest)
    ∙ sym (ap (λ xs. xs ++ rest) (map_more f old i 0 inside))
