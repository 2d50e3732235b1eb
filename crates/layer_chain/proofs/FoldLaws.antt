-- Folding, replacing and deleting, by the places of the layers.
use Rattle.std.proofs.Common.{◌≡◌, ◌≢◌, ℕ, ◌-◌, ◌<◌, List, [], ◌∷◌, ◌++◌, length, get_or, set, Option, Some, sym, ap, ◌∙◌, subst}
use Rattle.std.proofs.Common.{arith, length-append}
use Rattle.std.specs.List.{remove}
use Rattle.std.proofs.lemmas.List.{append_assoc}
use Rattle.std.specs.Option.{option_or}
use Rattle.vol_units.specs.Chain.{chain_from}
use Rattle.layer_chain.specs.Layers.{StandsOn, HasNoChild, IsTree, ages_in, read_layers}
use Rattle.layer_chain.specs.Found.{index_of_age}
use Rattle.layer_chain.proofs.ChainLaws.{Goes, chain-replaced, chain-without}
use Rattle.layer_chain.proofs.Cuts.{CutAt, cut_at, CutTwo, cut_two, each_before, each_other}
use Rattle.layer_chain.proofs.ReadLaws.{fold_keeps, replace_keeps, drop_keeps, read-alike}
use Rattle.layer_chain.proofs.TreeShape.{childless_append, on_back, tree_back, named_once, parent_above, parent_other}
use Rattle.layer_chain.proofs.TreeShape.{tree_without, tree_other, on_other, on_without}

module _ {X B : Type 0} (name_of : X → List ℕ) (parent_of : X → Option (List ℕ)) (block_of : X → Option B) where
  -- c at i is the only child of p at j
  module _ (xs : List X) (i j : ℕ) (c p : X) (before : i < j) (within : j < length xs) (c_is : c ≡ get_or xs i c)
      (p_is : p ≡ get_or xs j c) (tree : IsTree name_of parent_of xs) (on : parent_of c ≡ Some (name_of p))
      (only : (n : ℕ) → n < j → n ≢ i → parent_of (get_or xs n c) ≢ Some (name_of p)) where
    abbrev k : CutTwo xs i j c
    k = cut_two xs i j c before within

    is : xs ≡ k.before ++ (c ∷ (k.between ++ (p ∷ k.after)))
    is = k.is ∙ ap (λ (x : X). k.before ++ (x ∷ (k.between ++ (get_or xs j c ∷ k.after)))) (sym c_is)
        ∙ ap (λ (x : X). k.before ++ (c ∷ (k.between ++ (x ∷ k.after)))) (sym p_is)

    childless_before : HasNoChild name_of parent_of (name_of p) k.before
    childless_before = (each_other (λ x. parent_of x ≢ Some (name_of p)) xs i j c before within only).0

    childless_between : HasNoChild name_of parent_of (name_of p) k.between
    childless_between = (each_other (λ x. parent_of x ≢ Some (name_of p)) xs i j c before within only).1

    whole : IsTree name_of parent_of (k.before ++ (c ∷ (k.between ++ (p ∷ k.after))))
    whole = subst (λ (ys : List X). IsTree name_of parent_of ys) is tree

    under : IsTree name_of parent_of (k.between ++ (p ∷ k.after))
    under = (tree_back name_of parent_of k.before (c ∷ (k.between ++ (p ∷ k.after))) whole).2

    -- a block of c is moved onto p, or none: only p reads otherwise
    pub fold_at : (d q : X) → name_of d ≡ name_of c → parent_of d ≡ parent_of c → name_of q ≡ name_of p
        → parent_of q ≡ parent_of p → option_or (block_of d) (block_of q) ≡ option_or (block_of c) (block_of p)
        → (want : Option (List ℕ)) → want ≢ Some (name_of p)
        → read_layers name_of parent_of block_of (set (set xs i d) j q) want ≡ read_layers name_of parent_of block_of xs
        want
    fold_at d q d_name d_parent q_name q_parent moved want n =
        ap (λ (ys : List X). read_layers name_of parent_of block_of ys want) (k.with_others d q)
        ∙ fold_keeps name_of parent_of block_of k.before k.between k.after c p d q on childless_before childless_between
        (named_once name_of parent_of k.between k.after p under) d_name d_parent q_name q_parent moved want n
        ∙ sym (ap (λ (ys : List X). read_layers name_of parent_of block_of ys want) is)

    -- c takes p's parent, and p's block where it has none, and p goes: only p reads otherwise
    pub replace_at : (d : X) → name_of d ≡ name_of c → parent_of d ≡ parent_of p
        → block_of d ≡ option_or (block_of c) (block_of p) → (want : Option (List ℕ)) → want ≢ Some (name_of p)
        → read_layers name_of parent_of block_of (remove (set xs i d) j) want ≡ read_layers name_of parent_of block_of xs
        want
    replace_at d d_name d_parent d_block want n =
        ap (λ (ys : List X). read_layers name_of parent_of block_of ys want) (k.without_one d)
        ∙ replace_keeps name_of parent_of block_of k.before k.between k.after c p d p on childless_before childless_between
        (named_once name_of parent_of k.between k.after p under) d_name d_parent d_block
        (parent_above name_of parent_of k.between k.after p under) want n
        ∙ sym (ap (λ (ys : List X). read_layers name_of parent_of block_of ys want) is)

    pub replace_tree : (d : X) → name_of d ≡ name_of c → parent_of d ≡ parent_of p → IsTree name_of parent_of (remove (set xs i d) j)
    replace_tree d d_name d_parent =
        let tree_back_here = tree_back name_of parent_of k.between (p ∷ k.after) under in
        let p_on : StandsOn name_of parent_of (parent_of p) k.after = tree_back_here.1 in
        subst (λ (ys : List X). IsTree name_of parent_of ys) (append_assoc k.before (d ∷ k.between) k.after ∙ sym (k.without_one d))
        (tree_without name_of parent_of (k.before ++ (d ∷ k.between)) k.after p
        (childless_append name_of parent_of (name_of p) k.before (d ∷ k.between) childless_before
        ((λ e. parent_other name_of parent_of k.after p tree_back_here (sym d_parent ∙ e)), childless_between))
        (subst (λ (ys : List X). IsTree name_of parent_of ys) (sym (append_assoc k.before (d ∷ k.between) (p ∷ k.after)))
        (tree_other name_of parent_of k.before (k.between ++ (p ∷ k.after)) c d d_name
        (subst (λ (n : Option (List ℕ)). StandsOn name_of parent_of n (k.between ++ (p ∷ k.after))) (sym d_parent)
        (on_back name_of parent_of (parent_of p) k.between (p ∷ k.after)
        (on_back name_of parent_of (parent_of p) (p ∷ []) k.after p_on)))
        whole)))

    pub replace_on : (d : X) → name_of d ≡ name_of c → (n : Option (List ℕ)) → n ≢ Some (name_of p)
        → StandsOn name_of parent_of n xs → StandsOn name_of parent_of n (remove (set xs i d) j)
    replace_on d d_name n other on_n =
        subst (λ (ys : List X). StandsOn name_of parent_of n ys) (append_assoc k.before (d ∷ k.between) k.after ∙ sym (k.without_one d))
        (on_without name_of parent_of n (k.before ++ (d ∷ k.between)) k.after p other
        (subst (λ (ys : List X). StandsOn name_of parent_of n ys) (sym (append_assoc k.before (d ∷ k.between) (p ∷ k.after)))
        (on_other name_of parent_of n k.before (k.between ++ (p ∷ k.after)) c d d_name
        (subst (λ (ys : List X). StandsOn name_of parent_of n ys) is on_n))))

    older : length xs - 1 - i ≡ length (k.between ++ (p ∷ k.after))
    older = omega (arith, ap length is, k.place, length-append k.before (c ∷ (k.between ++ (p ∷ k.after))))

    -- p goes from each chain in which c stands over it
    pub replace_chain : (d : X) → name_of d ≡ name_of c → parent_of d ≡ parent_of p → (want : Option (List ℕ))
        → want ≢ Some (name_of p) → Goes (chain_from name_of parent_of xs want)
        (chain_from name_of parent_of (remove (set xs i d) j) want)
        (index_of_age (ages_in name_of parent_of xs want) (length xs - 1 - i)) c p d
    replace_chain d d_name d_parent want n =
        subst (λ (new : List X). Goes (chain_from name_of parent_of xs want) (chain_from name_of parent_of new want)
        (index_of_age (ages_in name_of parent_of xs want) (length xs - 1 - i)) c p d) (sym (k.without_one d))
        (subst (λ (age : ℕ). Goes (chain_from name_of parent_of xs want)
        (chain_from name_of parent_of (k.before ++ (d ∷ (k.between ++ k.after))) want)
        (index_of_age (ages_in name_of parent_of xs want) age) c p d) (sym older)
        (subst (λ (old : List X). Goes (chain_from name_of parent_of old want)
        (chain_from name_of parent_of (k.before ++ (d ∷ (k.between ++ k.after))) want)
        (index_of_age (ages_in name_of parent_of old want) (length (k.between ++ (p ∷ k.after)))) c p d) (sym is)
        (chain-replaced name_of parent_of k.between k.after c p d on childless_between
        (named_once name_of parent_of k.between k.after p under) d_name d_parent
        (parent_above name_of parent_of k.between k.after p under) k.before childless_before want n)))

  -- p at i has no child
  module _ (xs : List X) (i : ℕ) (p : X) (within : i < length xs) (p_is : p ≡ get_or xs i p)
      (leaf : (n : ℕ) → n < i → parent_of (get_or xs n p) ≢ Some (name_of p)) where
    abbrev l : CutAt xs i p
    l = cut_at xs i p within

    leaf_is : xs ≡ l.before ++ (p ∷ l.after)
    leaf_is = l.is ∙ ap (λ (x : X). l.before ++ (x ∷ l.after)) (sym p_is)

    childless : HasNoChild name_of parent_of (name_of p) l.before
    childless = each_before (λ x. parent_of x ≢ Some (name_of p)) xs i p within leaf

    pub delete_at : (want : Option (List ℕ)) → want ≢ Some (name_of p)
        → read_layers name_of parent_of block_of (remove xs i) want ≡ read_layers name_of parent_of block_of xs want
    delete_at want n =
        ap (λ (ys : List X). read_layers name_of parent_of block_of ys want) l.without
        ∙ drop_keeps name_of parent_of block_of l.before l.after p childless want n
        ∙ sym (ap (λ (ys : List X). read_layers name_of parent_of block_of ys want) leaf_is)

    -- it is in no chain
    pub delete_chain : (want : Option (List ℕ)) → want ≢ Some (name_of p)
        → chain_from name_of parent_of (remove xs i) want ≡ chain_from name_of parent_of xs want
    delete_chain want n =
        ap (λ (ys : List X). chain_from name_of parent_of ys want) l.without
        ∙ chain-without name_of parent_of l.before l.after p childless want n
        ∙ sym (ap (λ (ys : List X). chain_from name_of parent_of ys want) leaf_is)

    pub delete_tree : IsTree name_of parent_of xs → IsTree name_of parent_of (remove xs i)
    delete_tree tree = subst (λ (ys : List X). IsTree name_of parent_of ys) (sym l.without)
        (tree_without name_of parent_of l.before l.after p childless
        (subst (λ (ys : List X). IsTree name_of parent_of ys) leaf_is tree))

    pub delete_on : (n : Option (List ℕ)) → n ≢ Some (name_of p) → StandsOn name_of parent_of n xs
        → StandsOn name_of parent_of n (remove xs i)
    delete_on n other on_n = subst (λ (ys : List X). StandsOn name_of parent_of n ys) (sym l.without)
        (on_without name_of parent_of n l.before l.after p other
        (subst (λ (ys : List X). StandsOn name_of parent_of n ys) leaf_is on_n))

  -- a layer of the same name, parent and block takes another's place
  module _ (xs : List X) (i : ℕ) (c d : X) (within : i < length xs) (c_is : c ≡ get_or xs i c)
      (d_name : name_of d ≡ name_of c) (d_parent : parent_of d ≡ parent_of c) where
    abbrev m : CutAt xs i c
    m = cut_at xs i c within

    alike_is : xs ≡ m.before ++ (c ∷ m.after)
    alike_is = m.is ∙ ap (λ (x : X). m.before ++ (x ∷ m.after)) (sym c_is)

    pub alike_at : block_of d ≡ block_of c → (want : Option (List ℕ))
        → read_layers name_of parent_of block_of (set xs i d) want ≡ read_layers name_of parent_of block_of xs want
    alike_at d_block want =
        ap (λ (ys : List X). read_layers name_of parent_of block_of ys want) (m.with_other d)
        ∙ read-alike name_of parent_of block_of m.before m.after c d d_name d_parent d_block want
        ∙ sym (ap (λ (ys : List X). read_layers name_of parent_of block_of ys want) alike_is)

    pub alike_tree : IsTree name_of parent_of xs → IsTree name_of parent_of (set xs i d)
    alike_tree tree =
        let whole : IsTree name_of parent_of (m.before ++ (c ∷ m.after)) =
        subst (λ (ys : List X). IsTree name_of parent_of ys) alike_is tree in
        subst (λ (ys : List X). IsTree name_of parent_of ys) (sym (m.with_other d))
        (tree_other name_of parent_of m.before m.after c d d_name
        (subst (λ (n : Option (List ℕ)). StandsOn name_of parent_of n m.after) (sym d_parent)
        (tree_back name_of parent_of m.before (c ∷ m.after) whole).1) whole)

    pub alike_on : (n : Option (List ℕ)) → StandsOn name_of parent_of n xs → StandsOn name_of parent_of n (set xs i d)
    alike_on n on_n = subst (λ (ys : List X). StandsOn name_of parent_of n ys) (sym (m.with_other d))
        (on_other name_of parent_of n m.before m.after c d d_name
        (subst (λ (ys : List X). StandsOn name_of parent_of n ys) alike_is on_n))
