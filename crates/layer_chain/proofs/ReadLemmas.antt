-- One layer of a walk from the newest layer on: of a reading, and of a chain.
use Rattle.std.proofs.Common.{◌≡◌, ℕ, ◌+◌, ◌<◌, ◌≤◌, suc, Bool, cond, List, [], ◌∷◌, ◌++◌, length, map, get_or, drop}
use Rattle.std.proofs.Common.{Option, None, Some, true, false, sym, refl, ap, ◌∙◌, arith}
use Rattle.std.proofs.Math.Seq.{drop-cons}
use Rattle.std.proofs.lemmas.List.{drop_all, append_assoc}
use Rattle.std.specs.Option.{option_or}
use Rattle.std.specs.Str.{bytes_eq}
use Rattle.sparse_image.specs.Image.{block_at}
use Rattle.layer_chain.proofs.ReadLaws.{read-at_same, read-at_other, read-end, read-none}
use Rattle.vol_units.specs.Chain.{is_named, chain_from}
use Rattle.layer_chain.specs.Tree.{Tree, name_of, parent_of, reads, head_reads, name_and_mark, marked_chain}
use Rattle.layer_chain.specs.declared.layer.Layer.{Layer}

module _ (xs : List Layer) (i : ℕ) (x : Layer) (want : List ℕ) (within : i < length xs) (is : x ≡ get_or xs i x) where
  pub step-found : (k : ℕ) (found : List ℕ) → bytes_eq want (name_of x) ≡ true → Some found ≡ block_at x.image k
      → reads (drop i xs) (Some want) k ≡ Some found
  step-found k found named here =
      read-at_same name_of parent_of (λ l. block_at l.image k) xs i x want within is named
      ∙ ap (λ o. option_or o (reads (drop (i + 1) xs) (parent_of x) k)) (sym here)

  pub step-parent : (k : ℕ) → bytes_eq want (name_of x) ≡ true → None ≡ block_at x.image k
      → reads (drop i xs) (Some want) k ≡ reads (drop (i + 1) xs) (parent_of x) k
  step-parent k named none =
      read-at_same name_of parent_of (λ l. block_at l.image k) xs i x want within is named
      ∙ ap (λ o. option_or o (reads (drop (i + 1) xs) (parent_of x) k)) (sym none)

  pub step-other : (k : ℕ) → bytes_eq want (name_of x) ≡ false → reads (drop i xs) (Some want) k ≡ reads (drop (i + 1) xs) (Some want) k
  step-other k named = read-at_other name_of parent_of (λ l. block_at l.image k) xs i x want within is named

pub step-root : (xs : List Layer) (k : ℕ) → reads xs None k ≡ None
step-root xs k = read-none name_of parent_of (λ l. block_at l.image k) xs

-- a head on none reads as its own blocks
pub head_root : (t : Tree) (k : ℕ) → None ≡ block_at t.head k → t.on ≡ None → None ≡ head_reads t k
head_root t k none root =
    sym (ap (λ o. option_or o (reads t.layers t.on k)) (sym none) ∙ ap (λ n. reads t.layers n k) root ∙ step-root t.layers k)

pub step-end : (xs : List Layer) (i k : ℕ) (want : List ℕ) → length xs ≤ i → reads (drop i xs) (Some want) k ≡ None
step-end xs i k want h = read-end name_of parent_of (λ l. block_at l.image k) xs i want h

-- ---- a chain

map_either : (on : Bool) (x : Layer) (xs ys : List Layer)
    → map name_and_mark (cond on (x ∷ xs) ys) ≡ cond on (name_and_mark x ∷ map name_and_mark xs) (map name_and_mark ys)
map_either true x xs ys = refl
map_either false x xs ys = refl

chain-step : (xs : List Layer) (i : ℕ) (x : Layer) (want : Option (List ℕ)) → i < length xs → x ≡ get_or xs i x
    → marked_chain (drop i xs) want ≡ cond (is_named want (name_of x))
    (name_and_mark x ∷ marked_chain (drop (i + 1) xs) (parent_of x)) (marked_chain (drop (i + 1) xs) want)
chain-step xs i x want within is =
    let more : suc i ≡ i + 1 = omega arith in
    ap (λ (ys : List Layer). marked_chain ys want) (drop-cons xs i x within ∙ ap (λ (y : Layer). y ∷ drop (suc i) xs) (sym is))
    ∙ map_either (is_named want (name_of x)) x (chain_from name_of parent_of (drop (suc i) xs) (parent_of x))
    (chain_from name_of parent_of (drop (suc i) xs) want)
    ∙ ap (λ (n : ℕ). cond (is_named want (name_of x)) (name_and_mark x ∷ marked_chain (drop n xs) (parent_of x))
    (marked_chain (drop n xs) want)) more

module _ (xs : List Layer) (i : ℕ) (x : Layer) (want : Option (List ℕ)) (within : i < length xs) (is : x ≡ get_or xs i x) where
  pub chain-here : (front : List (List ℕ × Bool)) → is_named want (name_of x) ≡ true
      → (front ++ (name_and_mark x ∷ [])) ++ marked_chain (drop (i + 1) xs) (parent_of x) ≡ front ++ marked_chain (drop i xs) want
  chain-here front named =
      append_assoc front (name_and_mark x ∷ []) (marked_chain (drop (i + 1) xs) (parent_of x))
      ∙ ap (λ (cs : List (List ℕ × Bool)). front ++ cs) (sym (chain-step xs i x want within is
      ∙ ap (λ t. cond t (name_and_mark x ∷ marked_chain (drop (i + 1) xs) (parent_of x)) (marked_chain (drop (i + 1) xs) want)) named))

  pub chain-other : (front : List (List ℕ × Bool)) → is_named want (name_of x) ≡ false
      → front ++ marked_chain (drop (i + 1) xs) want ≡ front ++ marked_chain (drop i xs) want
  chain-other front named =
      ap (λ (cs : List (List ℕ × Bool)). front ++ cs) (sym (chain-step xs i x want within is
      ∙ ap (λ t. cond t (name_and_mark x ∷ marked_chain (drop (i + 1) xs) (parent_of x)) (marked_chain (drop (i + 1) xs) want)) named))

pub chain-end : (xs : List Layer) (i : ℕ) (want : Option (List ℕ)) → length xs ≤ i → marked_chain (drop i xs) want ≡ []
chain-end xs i want h = ap (λ (ys : List Layer). marked_chain ys want) (drop_all i xs h)
