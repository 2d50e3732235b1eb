-- A file that is read piece by piece, and fed.
use Rattle.std.proofs.Common.{◌≡◌, ℕ, ◌+◌, ◌≤◌, List, [], ◌++◌, length, take, drop, Option, Some, None, Ok, Err}
use Rattle.std.proofs.Common.{refl, sym, ap, subst, ◌∙◌, arith, length-drop, Result, Vec, Global}
use Rattle.std.specs.Option.{option_map}
use Rattle.std.proofs.Math.Seq.{take-add}
use Rattle.std.proofs.lemmas.List.{length-take-le, take-append-drop, take_all}
use Rattle.shelf_traits.specs.Files.{Files, Both, from_place}
use Rattle.image_maps.specs.Maps.{IsBadAt}
use Rattle.image_maps.specs.Reading.{Fed, Begins, Feeds, Reading}
use Rattle.image_maps.specs.declared.span.BlockSpan.{BlockSpan}
use Rattle.image_maps.specs.declared.error.MapError.{MapError}
use Rattle.image_maps.specs.declared.error.MapError.TheVariants.{BadLine}
use Rattle.folder_checks.specs.Told.{Told}
use Rattle.folder_checks.specs.Pieces.{IsMapRead, IsReadFile, IsFed, IsBadFile, FeedsAll}
use Rattle.folder_checks.proofs.ToldLemmas.{told_map, told_two}

pub both_told : (a b : Option Files) (P : Files → Type 0) → Both a b (λ old new. P old) → Told a P
both_told None None P p = tt
both_told None (Some y) P p = absurd p
both_told (Some x) None P p = absurd p
both_told (Some x) (Some y) P p = p

-- of a text that is long enough a piece fills the room
piece_fills : (text into : List ℕ) (at count room : ℕ) → count ≤ length into → at + room ≤ length text
    → take count into ≡ take room (drop at text) → count ≡ room
piece_fills text into at count room within long same =
    let rest : room ≤ length (drop at text) = omega (arith, length-drop at text) in
    sym (length-take-le count into within) ∙ ap length same ∙ length-take-le room (drop at text) rest

-- behind what was fed it is what was fed then
piece_joins : (text into : List ℕ) (at count room : ℕ) → count ≡ room
    → take count into ≡ take room (drop at text) → take at text ++ take count into ≡ take (at + count) text
piece_joins text into at count room full same =
    ap (λ l. take at text ++ l) same ∙ sym (take-add at room text) ∙ ap (λ n. take (at + n) text) (sym full)

-- a piece that is fed
pub fed_more : (blocks len at count room : ℕ) (file : Option (List ℕ)) (old new : Fed) (into : List ℕ) (done : Unit {0})
    → count ≤ length into → at + room ≤ len → take count into ≡ take room (from_place file at)
    → Feeds blocks old (take count into) (Ok done) new → IsFed file len at old → IsFed file len (at + count) new × (count ≡ room)
fed_more blocks len at count room file old new into done within long same feeds fed =
    let text = fed.text in
    let here = subst (λ o. take count into ≡ take room (from_place o at)) fed.there same in
    let full = piece_fills text into at count room within (omega (arith, long, fed.long)) here in
    let begun = subst (λ f. Feeds blocks f (take count into) (Ok done) new) fed.begun feeds in (
      record {
        text = text;
        there = fed.there;
        long = fed.long;
        begun = begun.0 ∙ ap Begins (piece_joins text into at count room full here);
      },
      full,
    )

-- a piece that is refused
pub fed_bad : (blocks len at count room place : ℕ) (file : Option (List ℕ)) (old new : Fed) (into : List ℕ)
    (e : MapError) → e ≡ BadLine place
    → count ≤ length into → at + room ≤ len → take count into ≡ take room (from_place file at)
    → Feeds blocks old (take count into) (Err e) new → IsFed file len at old → IsBadFile blocks file place
fed_bad blocks len at count room place file old new into e is within long same feeds fed =
    let text = fed.text in
    let here = subst (λ o. take count into ≡ take room (from_place o at)) fed.there same in
    let full = piece_fills text into at count room within (omega (arith, long, fed.long)) here in
    let refused = subst (λ x. Feeds blocks old (take count into) (Err x) new) is feeds in
    let bad = subst (λ f. Feeds blocks f (take count into) (Err (BadLine place)) new) fed.begun refused in
    let whole = ap (λ l. l ++ drop (at + count) text) (piece_joins text into at count room full here)
    ∙ take-append-drop (at + count) text in
    (text, fed.there, subst (λ t. IsBadAt t blocks place) whole (bad.1 (drop (at + count) text)))

-- ---- the whole file

-- of a file of that length nothing was fed at first
start_fed : (file : Option (List ℕ)) (len : ℕ) (fed : Fed) → Some len ≡ option_map length file → fed ≡ Begins [] → IsFed file len 0 fed
start_fed None len fed long begun = absurd (none_some long)
  where
    none_some : ◌≡◌ {A = Option ℕ} (Some len) None → ⊥
    none_some e = cc
start_fed (Some text) len fed long begun = record { text = text; there = refl; long = sym (some_is long); begun = begun }
  where
    some_is : ◌≡◌ {A = Option ℕ} (Some len) (Some (length text)) → len ≡ length text
    some_is e = cc

feeds_all : (a : Option Files) (shelf : ℕ) (file : List ℕ) (blocks len : ℕ) (reader : Reading) (new : Fed) (found : Option ℕ)
    → reader ≡ record { blocks = blocks; fed = Begins [] } → Told a (λ files. Some len ≡ option_map length (files shelf file))
    → Told a (λ files. IsFed (files shelf file) len 0 reader.fed → FeedsAll reader.blocks (files shelf file) len new found)
    → Told a (λ files. FeedsAll blocks (files shelf file) len new found)
feeds_all a shelf file blocks len reader new found is long told =
    told_two a (λ files. Some len ≡ option_map length (files shelf file)) _ _ long (subst Feeding is told)
    (λ files here feeds. feeds (start_fed (files shelf file) len (Begins []) here refl))
  where
    Feeding : Reading → Type 0
    Feeding r = Told a (λ files. IsFed (files shelf file) len 0 r.fed → FeedsAll r.blocks (files shelf file) len new found)

pub all_bad : (a : Option Files) (shelf : ℕ) (file : List ℕ) (blocks len place : ℕ) (reader : Reading) (new : Fed) (found : Option ℕ)
    → found ≡ Some place → reader ≡ record { blocks = blocks; fed = Begins [] }
    → Told a (λ files. Some len ≡ option_map length (files shelf file))
    → Told a (λ files. IsFed (files shelf file) len 0 reader.fed → FeedsAll reader.blocks (files shelf file) len new found)
    → Told a (λ files. IsBadFile blocks (files shelf file) place)
all_bad a shelf file blocks len place reader new found some is long told =
    subst (λ f. Told a (λ files. FeedsAll blocks (files shelf file) len new f)) some
    (feeds_all a shelf file blocks len reader new found is long told)

pub all_read : (a : Option Files) (shelf : ℕ) (file : List ℕ) (blocks len : ℕ) (reader new : Reading) (found : Option ℕ)
    (spans : Result (Vec BlockSpan Global) ℕ) → found ≡ None → reader ≡ record { blocks = blocks; fed = Begins [] }
    → new.blocks ≡ reader.blocks → Told a (λ files. Some len ≡ option_map length (files shelf file))
    → Told a (λ files. IsFed (files shelf file) len 0 reader.fed → FeedsAll reader.blocks (files shelf file) len new.fed found)
    → ((text : List ℕ) → new.fed ≡ Begins text → IsMapRead new.blocks text spans)
    → Told a (λ files. IsReadFile blocks (files shelf file) spans)
all_read a shelf file blocks len reader new found spans none is kept long told ends =
    told_map a (λ files. IsFed (files shelf file) len len new.fed) _
    (subst (λ f. Told a (λ files. FeedsAll blocks (files shelf file) len new.fed f)) none
    (feeds_all a shelf file blocks len reader new.fed found is long told)) by_text
  where
    by_text : (files : Files) → IsFed (files shelf file) len len new.fed → IsReadFile blocks (files shelf file) spans
    by_text files fed =
        let whole : take len fed.text ≡ fed.text = take_all len fed.text (omega (arith, fed.long)) in (
          fed.text,
          fed.there,
          subst (λ n. IsMapRead n fed.text spans) (kept ∙ ap (λ (r : Reading). r.blocks) is)
              (ends fed.text (fed.begun ∙ ap Begins whole)),
        )
