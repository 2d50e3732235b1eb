-- Pieces that are passed on to a sink one after another.
use Rattle.std.proofs.Common.{◌≡◌, ℕ, List, [], ◌++◌, sym, ap, subst, ◌∙◌, append_assoc, Option}
use Rattle.std.specs.Io.KnownBytes.{Appends}
use Rattle.std.proofs.KnownBytes.{Appends-trans}
use Rattle.outer_traits.specs.Passing.{WritesPrefix, Passes}

-- one text after another
pub Passes-trans : (s t u : Option (List ℕ)) (had mid has x y : List ℕ) → Passes s t had mid x → Passes t u mid has y
    → Passes s u had has (x ++ y)
Passes-trans s t u had mid has x y p q = (p.0 ++ q.0, cut, Appends-trans s t u p.0 q.0 p.2 q.2)
  where
    cut : had ++ (x ++ y) ≡ (p.0 ++ q.0) ++ has
    cut = sym (append_assoc had x y) ∙ ap (λ l. l ++ y) p.1 ∙ append_assoc p.0 mid y ∙ ap (λ l. p.0 ++ l) q.1
        ∙ sym (append_assoc p.0 q.0 has)

-- a prefix of the second text, behind all of the first
pub WritesPrefix-after : (s t u : Option (List ℕ)) (had mid x y : List ℕ) → Passes s t had mid x
    → WritesPrefix t u (mid ++ y) → WritesPrefix s u (had ++ (x ++ y))
WritesPrefix-after s t u had mid x y p q = (p.0 ++ q.0, q.1, cut, Appends-trans s t u p.0 q.0 p.2 q.3)
  where
    cut : had ++ (x ++ y) ≡ (p.0 ++ q.0) ++ q.1
    cut = sym (append_assoc had x y) ∙ ap (λ l. l ++ y) p.1 ∙ append_assoc p.0 mid y ∙ ap (λ l. p.0 ++ l) q.2
        ∙ sym (append_assoc p.0 q.0 q.1)

-- a prefix of some bytes is one of more bytes
pub WritesPrefix-more : (s t : Option (List ℕ)) (x y : List ℕ) → WritesPrefix s t x → WritesPrefix s t (x ++ y)
WritesPrefix-more s t x y p = (p.0, p.1 ++ y, ap (λ l. l ++ y) p.2 ∙ append_assoc p.0 p.1 y, p.3)

-- what was passed on is a prefix
pub WritesPrefix-passed : (s t : Option (List ℕ)) (had has x : List ℕ) → Passes s t had has x → WritesPrefix s t (had ++ x)
WritesPrefix-passed s t had has x p = (p.0, has, p.1, p.2)

-- the rest of the buffer goes last
pub Appends-last : (s t u : Option (List ℕ)) (has x : List ℕ) → Passes s t [] has x → Appends t u has → Appends s u x
Appends-last s t u has x p q = subst (Appends s u) (sym p.1) (Appends-trans s t u p.0 has p.2 q)

pub WritesPrefix-last : (s t u : Option (List ℕ)) (has x : List ℕ) → Passes s t [] has x → WritesPrefix t u has → WritesPrefix s u x
WritesPrefix-last s t u has x p q =
    (p.0 ++ q.0, q.1, p.1 ∙ ap (λ l. p.0 ++ l) q.2 ∙ sym (append_assoc p.0 q.0 q.1), Appends-trans s t u p.0 q.0 p.2 q.3)
