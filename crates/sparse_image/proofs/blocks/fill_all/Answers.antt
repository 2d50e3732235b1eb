use Rattle.std.proofs.Common.{◌≡◌, ◌+◌, ◌*◌, ◌<◌, ℕ, List, [], ◌∷◌, ◌++◌, Option, Some, is_some, length, take, drop}
use Rattle.std.proofs.Common.{set, refl, sym, ap, subst, true, ◌∙◌, arith, add-one, length-set}
use Rattle.std.proofs.Math.Seq.{take-suc-set}
use Rattle.std.proofs.lemmas.List.{drop-set-lt, take_all}
use Rattle.std.specs.List.{All}
use Rattle.vol_units.specs.Bytes.{bytes_at}
use Rattle.sparse_image.specs.Listed.{blocks_of, bytes_in}
use Rattle.sparse_image.proofs.FillLemmas.{bytes_in-filled, filled-full}
use Rattle.sparse_image.proofs.ListedLemmas.{listed-more, listed-none, same_at}
use Rattle.sparse_image.proofs.blocks.fill_all.Goals as goal

pub loop-i-init : goal.loop-i-init
loop-i-init c = record { done = sym (listed-none (λ (i : ℕ). Some (bytes_at c.args.bytes.now (i * 4096) 4096))); rest = refl; count = refl }

pub fill_slot-requires-clause-full : goal.fill_slot-requires-clause-full
fill_slot-requires-clause-full c =
    let i = c.loop-i.invariant in
    let d = c.index-slots-i.result in
    let inside : c.loop-i.i < length c.loop-i.slots = omega arith in
    ap is_some (same_at c.loop-i.slots c.args.slots.now c.loop-i.i d inside i.count i.rest).0
    ∙ c.requires.full c.loop-i.i d (omega (arith, i.count))

pub loop-i-preserved : goal.loop-i-preserved
loop-i-preserved c =
    let i = c.loop-i.invariant in
    let at = c.loop-i.i in
    let inside : at < length c.loop-i.slots = omega arith in
    let filled = c.fill_slot.new.slot in
    let same = same_at c.loop-i.slots c.args.slots.now at c.index-slots-i.result inside i.count i.rest in
    let blocks = λ (k : ℕ). Some (bytes_at c.args.bytes.now (k * 4096) 4096) in
    record {
      done =
          ap (λ n. take n (set c.loop-i.slots at filled)) (add-one at)
          ∙ take-suc-set c.loop-i.slots at filled inside
          ∙ ap (λ (ys : List (Option (List ℕ))). ys ++ filled ∷ []) i.done
          ∙ ap (λ (y : Option (List ℕ)). blocks_of c.args.bytes.now at ++ y ∷ []) c.fill_slot.ensures
          ∙ sym (listed-more blocks at);
      rest = drop-set-lt (at + 1) c.loop-i.slots at filled (omega arith) ∙ ap (λ n. drop n c.loop-i.slots) (add-one at)
          ∙ same.1 ∙ ap (λ n. drop n c.args.slots.now) (sym (add-one at));
      count = length-set c.loop-i.slots at filled ∙ i.count;
    }

-- all of them are
all : (c : goal.After-loop-i) → c.loop-i.slots ≡ blocks_of c.args.bytes.now (length c.args.slots.now)
all c =
    let i = c.loop-i.invariant in
    let done : c.loop-i.i ≡ length c.args.slots.now = omega (arith, i.count) in
    sym (take_all c.loop-i.i c.loop-i.slots (omega (arith, i.count))) ∙ i.done ∙ ap (blocks_of c.args.bytes.now) done

pub returns-clause-blocks : goal.returns-clause-blocks
returns-clause-blocks c = all c

pub returns-clause-bytes : goal.returns-clause-bytes
returns-clause-bytes c = ap bytes_in (all c) ∙ bytes_in-filled c.args.bytes.now (length c.args.slots.now) c.requires.whole

pub returns-clause-full : goal.returns-clause-full
returns-clause-full c = subst (All (λ (b : Option (List ℕ)). is_some b ≡ true)) (sym (all c))
    (filled-full c.args.bytes.now (length c.args.slots.now))
