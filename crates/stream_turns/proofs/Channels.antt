-- The lines of a worker, one after another: new ones, and those that are taken back.
use Rattle.std.proofs.Common.{◌≡◌, ℕ, ◌+◌, List, [], ◌∷◌, ◌++◌, length, map, Option, sym, ap, subst, ◌∙◌, arith}
use Rattle.std.proofs.Common.{slice_index_or, add-zero}
use Rattle.std.specs.Prelude.{IfSome, None}
use Rattle.std.proofs.lemmas.List.{map-append, length-append, length-map, append-nil, get_or_past}
use Rattle.std.proofs.lemmas.List.Elements.{All-nil, All-cons, All-append}
use Rattle.outer_traits.specs.declared.ends.Ends.{Ends}
use Rattle.outer_traits.specs.Lines.{IsNewLine, TellsSame, AreLinesOf, RecordsOf}
use Rattle.volume_model.specs.declared.call.Call.{Call}
use Rattle.volume_model.specs.declared.entry.Entry.{Entry}
use Rattle.volume_model.specs.History.{Spot}
use Rattle.client_worker.specs.Exchanges.{told_in}
use Rattle.stream_turns.specs.Turns.{IsTurn, TellsOthers}
use Rattle.stream_turns.specs.Turn.{AreNewLines}
use Rattle.stream_turns.proofs.OneTurn.{noted}

lined_more : (worker first : ℕ) (es : List Ends) (e : Ends) → AreLinesOf worker first es
    → e ≡ record { worker = worker; replica = first + length es } → AreLinesOf worker first (es ++ e ∷ [])
lined_more worker first [] e lined is = (is ∙ ap (λ n. record { worker = worker; replica = n }) (add-zero first), tt)
lined_more worker first (x ∷ es) e lined is =
    (lined.0, lined_more worker (first + 1) es e lined.1 (is ∙ ap (λ n. record { worker = worker; replica = n }) (omega arith)))

more_lines : (worker n : ℕ) (ends : List Ends) (counts : List ℕ) (told : List (Option (List (List ℕ)))) (e : Ends) (k : ℕ)
    (t : Option (List (List ℕ))) → AreNewLines worker n ends counts told
    → IsNewLine e k t worker n → AreNewLines worker (n + 1) (ends ++ e ∷ []) (counts ++ k ∷ []) (told ++ t ∷ [])
more_lines worker n ends counts told e k t lines new = record {
  lined = lined_more worker 0 ends e lines.lined
      (new.between ∙ ap (λ m. record { worker = worker; replica = m }) (omega (arith, lines.many)));
  many = omega (arith, length-append ends (e ∷ []), lines.many);
  unfailed = All-append (λ m. m ≡ 0) counts (k ∷ []) lines.unfailed (All-cons (λ m. m ≡ 0) k [] new.unfailed (All-nil (λ m. m ≡ 0)));
  empty = All-append (λ t. IfSome t (λ frames. frames ≡ [])) told (t ∷ []) lines.empty
      (All-cons (λ t. IfSome t (λ frames. frames ≡ [])) t [] new.empty (All-nil (λ t. IfSome t (λ frames. frames ≡ []))));
}

-- one channel more
pub more_channels : (C L : Type 0) (line : C → L) (ends : L → Ends) (count : L → ℕ) (told : L → Option (List (List ℕ)))
    (worker n : ℕ) (cs more : List C) (c : C) (l : L)
    → more ≡ cs ++ c ∷ [] → line c ≡ l
    → AreNewLines worker n (map (λ (x : C). ends (line x)) cs) (map (λ (x : C). count (line x)) cs)
    (map (λ (x : C). told (line x)) cs)
    → IsNewLine (ends l) (count l) (told l) worker n
    → AreNewLines worker (n + 1) (map (λ (x : C). ends (line x)) more) (map (λ (x : C). count (line x)) more)
    (map (λ (x : C). told (line x)) more)
more_channels C L line ends count told worker n cs more c l is at lines new =
    three _ _ _ _ _ _ (sym (mapped ends)) (sym (mapped count)) (sym (mapped told))
    (more_lines worker n _ _ _ (ends l) (count l) (told l) lines new)
  where
    mapped : {X : Type 0} (f : L → X) → map (λ (x : C). f (line x)) more ≡ map (λ (x : C). f (line x)) cs ++ f l ∷ []
    mapped f = ap (map (λ (x : C). f (line x))) is ∙ map-append (λ (x : C). f (line x)) cs (c ∷ [])
        ∙ ap (λ y. map (λ (x : C). f (line x)) cs ++ f y ∷ []) at

    three : (es es' : List Ends) (ns ns' : List ℕ) (ts ts' : List (Option (List (List ℕ)))) → es ≡ es' → ns ≡ ns' → ts ≡ ts'
        → AreNewLines worker (n + 1) es ns ts → AreNewLines worker (n + 1) es' ns' ts'
    three es es' ns ns' ts ts' e f g lines =
        subst (λ x. AreNewLines worker (n + 1) x ns' ts') e
        (subst (λ x. AreNewLines worker (n + 1) es x ts') f (subst (AreNewLines worker (n + 1) es ns) g lines))

-- as many lines as replicas tell of themselves
pub many_told : {C L : Type 0} (line : C → L) (ends : L → Ends) (count : L → ℕ) (new old : List C) (n : ℕ)
    → length new ≡ length old → length (map (λ (x : C). ends (line x)) old) ≡ n
    → length (map (λ (x : C). count (line x)) new) ≡ n
many_told line ends count new old n same many =
    omega (arith, length-map new (λ x. count (line x)), length-map old (λ x. ends (line x)), same, many)

-- once none is left, all are taken back
pub all_records : {T : Type 0} (C : Type 0) (told : C → T) (f g : ℕ → ℕ → T) (worker : ℕ) (all taken left : List C)
    → all ≡ taken ++ left → left ≡ [] → RecordsOf f g worker (map told taken)
    → RecordsOf f g worker (map told all)
all_records C told f g worker all taken left cut none records =
    subst (λ l. RecordsOf f g worker (map told l)) (sym (cut ∙ ap (λ l. taken ++ l) none ∙ append-nil taken)) records

-- ---- what a wiring tells

pub tells_on : {T : Type 0} (f g h : ℕ → ℕ → T) → TellsSame f g → TellsSame g h → TellsSame f h
tells_on f g h p q worker replica = q worker replica ∙ p worker replica

-- lines of another worker stay as they were
pub others_stay : {T : Type 0} (f g h : ℕ → ℕ → T) (worker : ℕ) (told : List T) → TellsSame f g → RecordsOf g h worker told
    → TellsOthers worker f h
others_stay f g h worker told same records w r apart = records.others w r (λ both. apart both.0) ∙ same w r

-- Lines of a worker to so many replicas: they were used, and these are given back.
module _ (w m n : ℕ) (C : Type 0) (ends : C → Ends) (count : C → ℕ) (told : C → Option (List (List ℕ))) (items back : List C)
    (lines : AreNewLines w m (map ends items) (map count items) (map told items)) (at : m ≡ n)
    (same : map ends back ≡ map ends items) where
  as_many : length back ≡ n
  as_many = omega (arith, length-map back ends, ap length same, lines.many, at)

  lined : AreLinesOf w 0 (map ends back)
  lined = subst (AreLinesOf w 0) (sym same) lines.lined

  -- what they told is noted
  pub noted_back : (opening : Spot) (cs : List Call) (before after : List Entry) (counts counts' : ℕ → ℕ → ℕ)
      (told0 told' : ℕ → ℕ → Option (List (List ℕ))) → length opening.modes ≡ n
      → IsTurn opening n w cs before after (λ r. slice_index_or (map count back) r 0) (told_in (map told back))
      → ((worker : ℕ) → AreLinesOf worker 0 (map ends back) → RecordsOf counts counts' worker (map count back))
      → ((worker : ℕ) → AreLinesOf worker 0 (map ends back) → RecordsOf told0 told' worker (map told back))
      → IsTurn opening n w cs before after (counts' w) (told' w)
  noted_back opening cs before after counts counts' told0 told' modes turn counted carried =
      noted opening n w cs before after (λ r. slice_index_or (map count back) r 0) (counts' w) (told_in (map told back)) (told' w)
      modes turn
      (λ r high. get_or_past (map count back) r 0 (omega (arith, length-map back count, as_many, high)))
      (λ r low. (counted w lined).here r 0 (omega (arith, length-map back count, as_many, low)))
      (λ r low. (carried w lined).here r None (omega (arith, length-map back told, as_many, low)))

  -- and other lines tell the same
  pub others_back : {T : Type 0} (note : C → T) (f g h : ℕ → ℕ → T) → TellsSame f g
      → ((worker : ℕ) → AreLinesOf worker 0 (map ends back) → RecordsOf g h worker (map note back)) → TellsOthers w f h
  others_back note f g h before records = others_stay f g h w (map note back) before (records w lined)
