-- The four parts of a written text: what was opened, the entries, the replies or the sessions, and the end.
use Rattle.std.proofs.Common.{◌≡◌, ℕ, List, [], ◌++◌, sym, ap, subst, ◌∙◌, append_assoc, Option}
use Rattle.outer_traits.specs.Passing.{WritesPrefix, Passes}
use Rattle.outer_traits.proofs.Passing.{WritesPrefix-more}

-- a prefix of what was opened and of the lines of the calls is one of the whole text
pub prefix_of_calls : (s t : Option (List ℕ)) (opened entries replies end : List ℕ)
    → WritesPrefix s t (opened ++ (entries ++ replies)) → WritesPrefix s t (opened ++ (entries ++ replies) ++ end)
prefix_of_calls s t opened entries replies end p = WritesPrefix-more s t (opened ++ (entries ++ replies)) end p

-- and so is a prefix of what was opened and of the lines of the entries
pub prefix_of_entries : (s t : Option (List ℕ)) (opened entries replies end : List ℕ)
    → WritesPrefix s t (opened ++ entries) → WritesPrefix s t (opened ++ (entries ++ replies) ++ end)
prefix_of_entries s t opened entries replies end p =
    prefix_of_calls s t opened entries replies end
    (subst (WritesPrefix s t) (append_assoc opened entries replies) (WritesPrefix-more s t (opened ++ entries) replies p))

-- the end was put behind the lines of the calls
pub whole_passes : (s t : Option (List ℕ)) (opened has all entries replies end : List ℕ) → all ≡ has ++ end
    → Passes s t opened has (entries ++ replies) → Passes s t [] all (opened ++ (entries ++ replies) ++ end)
whole_passes s t opened has all entries replies end put p =
    (p.0, ap (λ l. l ++ end) p.1 ∙ append_assoc p.0 has end ∙ ap (λ l. p.0 ++ l) (sym put), p.2)

-- where nothing was opened, the text has three parts
pub nothing_opened : (opened entries sessions end : List ℕ) → opened ≡ []
    → opened ++ (entries ++ sessions) ++ end ≡ entries ++ sessions ++ end
nothing_opened opened entries sessions end none = ap (λ l. l ++ (entries ++ sessions) ++ end) none
