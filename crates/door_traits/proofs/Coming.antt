-- What doors tell, one session after another.
use Rattle.std.proofs.Common.{◌≡◌, ◌≤◌, ℕ, List, [], ◌∷◌, ◌++◌, length, Option, map, refl, sym, ap, subst, ◌∙◌}
use Rattle.std.proofs.Common.{append_assoc, append-nil, arith}
use Rattle.std.proofs.lemmas.List.{map-append, length-map}
use Rattle.std.proofs.lemmas.List.Elements.{All-push}
use Rattle.door_traits.specs.declared.client.Client.{Client}
use Rattle.door_traits.specs.Sessions.{AreUnfailed, Come, Comes, GoBack, Told, told, told_all, untouched}

-- what a session tells
abbrev pub tell : {I O : Type 0} → (I → Option (List ℕ)) → (I → ℕ) → (O → Option (List ℕ)) → (O → ℕ) → Client I O → Told
tell left read_faults holds write_faults s = told (left s.source) (read_faults s.source) (holds s.sink) (write_faults s.sink)

-- where none came, the same are to come
pub Come-nil : (coming : List (List ℕ)) → Come coming coming []
Come-nil coming = ([], refl, refl)

-- one more came
pub Come-more : (s t u : List (List ℕ)) (ts : List Told) (left holds : Option (List ℕ)) (reads writes : ℕ) → Come s t ts
    → Comes t u left holds → reads ≡ 0 → writes ≡ 0 → Come s u (ts ++ told left reads holds writes ∷ [])
Come-more s t u ts left holds reads writes p q unread unwritten = (p.0 ++ q.0 ∷ [], cut, tells)
  where
    cut : s ≡ (p.0 ++ q.0 ∷ []) ++ u
    cut = p.1 ∙ ap (λ l. p.0 ++ l) q.1 ∙ sym (append_assoc p.0 (q.0 ∷ []) u)

    last : told left reads holds writes ≡ untouched q.0
    last = rw q.2 (rw q.3 (rw unread (rw unwritten refl)))

    tells : ts ++ told left reads holds writes ∷ [] ≡ map untouched (p.0 ++ q.0 ∷ [])
    tells = ap (λ l. l ++ told left reads holds writes ∷ []) p.2 ∙ ap (λ t. map untouched p.0 ++ t ∷ []) last
        ∙ sym (map-append untouched p.0 (q.0 ∷ []))

-- the same of a list of sessions
pub Come-push : {I O : Type 0} (left : I → Option (List ℕ)) (read_faults : I → ℕ) (holds : O → Option (List ℕ))
    (write_faults : O → ℕ) (s t u : List (List ℕ)) (sessions all : List (Client I O)) (x : Client I O)
    → all ≡ sessions ++ x ∷ [] → Come s t (told_all left read_faults holds write_faults sessions)
    → Comes t u (left x.source) (holds x.sink) → read_faults x.source ≡ 0 → write_faults x.sink ≡ 0
    → Come s u (told_all left read_faults holds write_faults all)
Come-push left read_faults holds write_faults s t u sessions all x is p q unread unwritten =
    let telling = tell left read_faults holds write_faults in
    subst (Come s u) (sym (ap (map telling) is ∙ map-append telling sessions (x ∷ [])))
    (Come-more s t u (map telling sessions) (left x.source) (holds x.sink) (read_faults x.source) (write_faults x.sink)
    p q unread unwritten)

-- one more of these sessions has not failed
pub AreUnfailed-push : {I O : Type 0} (read_faults : I → ℕ) (write_faults : O → ℕ) (sessions all : List (Client I O))
    (x : Client I O) → all ≡ sessions ++ x ∷ [] → AreUnfailed read_faults write_faults sessions
    → (read_faults x.source ≡ 0) × (write_faults x.sink ≡ 0) → AreUnfailed read_faults write_faults all
AreUnfailed-push read_faults write_faults sessions all x is before now =
    subst (AreUnfailed read_faults write_faults) (sym is)
    (All-push (λ s. (read_faults s.source ≡ 0) × (write_faults s.sink ≡ 0)) sessions x before now)

-- one more session told of itself, behind those before it
pub told-push : {I O : Type 0} (left : I → Option (List ℕ)) (read_faults : I → ℕ) (holds : O → Option (List ℕ))
    (write_faults : O → ℕ) (s t u : List Told) (sessions : List (Client I O)) (x : Client I O)
    → t ≡ s ++ told_all left read_faults holds write_faults sessions
    → u ≡ t ++ tell left read_faults holds write_faults x ∷ []
    → u ≡ s ++ told_all left read_faults holds write_faults (sessions ++ x ∷ [])
told-push left read_faults holds write_faults s t u sessions x p q =
    let telling = tell left read_faults holds write_faults in
    q ∙ ap (λ l. l ++ telling x ∷ []) p ∙ append_assoc s (map telling sessions) (telling x ∷ [])
    ∙ ap (λ l. s ++ l) (sym (map-append telling sessions (x ∷ [])))

-- where no session came, none goes back
pub GoBack-none : (count : ℕ) (before now : List (List ℕ)) (old new : List Told) → now ≡ before → new ≡ old
    → GoBack count before now old new
GoBack-none count before now old new same still = ([], omega arith, sym same, still ∙ sym (append-nil old))

-- the sessions that came go back
pub GoBack-come : (count : ℕ) (before opened came now : List (List ℕ)) (old mid new ts : List Told) → length ts ≤ count
    → opened ≡ before → Come opened came ts → now ≡ came → mid ≡ old → new ≡ mid ++ ts → GoBack count before now old new
GoBack-come count before opened came now old mid new ts few same come is still back =
    let tells : ts ≡ map untouched come.0 = come.2 in (
      come.0,
      omega (arith, few, ap length tells, length-map come.0 untouched),
      sym same ∙ come.1 ∙ ap (λ l. come.0 ++ l) (sym is),
      back ∙ ap (λ l. l ++ ts) still ∙ ap (λ l. old ++ l) tells,
    )
