use Rattle.std.proofs.Common.{◌≡◌, ◌+◌, ◌/◌, ◌<◌, ℕ, List, [], ◌∷◌, ◌++◌, Option, is_some, true, false, length, take}
use Rattle.std.proofs.Common.{drop, get_or, set, refl, sym, ap, subst, ◌∙◌, arith, add-one, length-set}
use Rattle.std.proofs.Math.Seq.{take-suc-set}
use Rattle.std.proofs.lemmas.List.{drop-set-lt, length-take-le, take_all}
use Rattle.sparse_image.specs.Image.{ChangesBlock, block_at, has_page}
use Rattle.sparse_image.specs.Disk.{bytes_of}
use Rattle.sparse_image.specs.Listed.{listed}
use Rattle.replica_node.specs.Room.{is_among}
use Rattle.sparse_image.proofs.ListedLemmas.{listed-more, listed-none, same_at}
use Rattle.replica_node.proofs.WriteLemmas.{PutsBlock, none_put, one_put, among_next}
use Rattle.replica_node.proofs.swap.swap_all.Goals as goal

pub loop-i-init : goal.loop-i-init
loop-i-init c = record {
  puts = none_put c.args.tree.now c.args.first c.requires.node;
  back = sym (listed-none (λ (k : ℕ). block_at c.args.tree.now.head (c.args.first + k)));
  rest = refl;
  count = refl;
}

pub swap_block-requires-clause-full : goal.swap_block-requires-clause-full
swap_block-requires-clause-full c =
    let i = c.loop-i.invariant in
    let d = c.index-slots-i.result in
    let inside : c.loop-i.i < length c.loop-i.slots = omega arith in
    ap is_some (same_at c.loop-i.slots c.args.slots.now c.loop-i.i d inside i.count i.rest).0
    ∙ c.requires.full c.loop-i.i d (omega (arith, i.count))

pub loop-i-preserved : goal.loop-i-preserved
loop-i-preserved c =
    let slot_swap_block = c.swap_block.new.slot in
    let i = c.loop-i.invariant in
    let at = c.loop-i.i in
    let blocks = c.args.slots.now in
    let b = c.index-slots-i.result in
    let inside : at < length c.loop-i.slots = omega arith in
    let within : at < length blocks = omega (arith, i.count) in
    let same = same_at c.loop-i.slots blocks at b inside i.count i.rest in
    let is : get_or blocks at b ≡ b = sym same.0 ∙ sym c.index-slots-i.is in
    let full : is_some b ≡ true = ap is_some (sym is) ∙ c.requires.full at b within in
    let whole : length (bytes_of b) ≡ 4096 = ap (λ x. length (bytes_of x)) c.index-slots-i.is ∙ c.swap_block.ensures.whole in
    let page : has_page c.loop-i.tree.head ((c.args.first + at) / 512) ≡ true =
    i.puts.pages ((c.args.first + at) / 512) ∙ c.requires.pages (c.args.first + at) (omega arith, omega arith) in
    let put : PutsBlock c.loop-i.tree c.swap_block.new.tree (c.args.first + at) b =
    record {
      full = full;
      page = page;
      changes =
          subst (λ x. ChangesBlock c.loop-i.tree.head c.swap_block.new.tree.head (c.args.first + at) x) (sym c.index-slots-i.is)
          c.swap_block.ensures.changes;
      rest = c.swap_block.ensures.rest;
      whole = whole;
    } in
    let head = λ (k : ℕ). block_at c.args.tree.now.head (c.args.first + k) in
    let before : length (take at blocks) ≡ at = length-take-le at blocks (omega arith) in
    let unwritten : is_among c.args.first (length (take at blocks)) (c.args.first + at) ≡ false =
    ap (λ n. is_among c.args.first n (c.args.first + at)) before ∙ among_next c.args.first at in
    record {
      puts = one_put c.args.tree.now c.loop-i.tree c.swap_block.new.tree c.args.first at blocks b i.puts within is
          c.requires.inside c.requires.node put;
      back =
          ap (λ n. take n (set c.loop-i.slots at slot_swap_block)) (add-one at)
          ∙ take-suc-set c.loop-i.slots at slot_swap_block inside
          ∙ ap (λ (ys : List (Option (List ℕ))). ys ++ slot_swap_block ∷ []) i.back
          ∙ ap (λ (y : Option (List ℕ)). listed head at ++ y ∷ []) (c.swap_block.ensures.back ∙ i.puts.others (c.args.first + at) unwritten)
          ∙ sym (listed-more head at);
      rest = drop-set-lt (at + 1) c.loop-i.slots at slot_swap_block (omega arith)
          ∙ ap (λ n. drop n c.loop-i.slots) (add-one at) ∙ same.1 ∙ ap (λ n. drop n blocks) (sym (add-one at));
      count = length-set c.loop-i.slots at slot_swap_block ∙ i.count;
    }

pub returns-clause-back : goal.returns-clause-back
returns-clause-back c =
    let i = c.loop-i.invariant in
    let all : c.loop-i.i ≡ length c.args.slots.now = omega (arith, i.count) in
    sym (take_all c.loop-i.i c.loop-i.slots (omega (arith, i.count))) ∙ i.back
    ∙ ap (listed (λ k. block_at c.args.tree.now.head (c.args.first + k))) all
