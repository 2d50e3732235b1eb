-- One stream's turn behind those of others.
use Rattle.std.proofs.Common.{◌≡◌, ◌≢◌, ℕ, zero, suc, ◌+◌, ◌<◌, ◌≤◌, inl, inr, Bool, true, false, cond, eqb, List, []}
use Rattle.std.proofs.Common.{◌∷◌, ◌++◌, length, map, Option, sym, refl, ap, subst, ◌∙◌, arith}
use Rattle.std.specs.Prelude.{IfSome}
use Rattle.std.specs.List.{All}
use Rattle.std.proofs.lemmas.Bool.Decides.{eqb_tells}
use Rattle.std.proofs.lemmas.List.{append-nil, length-append, map-append, get_or_past}
use Rattle.volume_model.specs.declared.call.Call.{Call}
use Rattle.volume_model.specs.declared.call.Refusal.{Refusal}
use Rattle.volume_model.specs.declared.entry.Answer.{Answer}
use Rattle.volume_model.specs.declared.entry.Entry.{Entry}
use Rattle.volume_model.specs.declared.entry.Entry.TheVariants as entry
use Rattle.volume_model.specs.Faults.{last_in, last_count}
use Rattle.volume_model.specs.History.{Spot, answers_from, calls_of}
use Rattle.volume_model.specs.OneWorker.{Store, behind_entries, behind, served_from, after_streams, served_streams, served, stream_of}
use Rattle.volume_model.specs.OneWorker.{answer_for, entries_by, marks_unless, refused_by, after_done, after_calls}
use Rattle.volume_model.proofs.FaultLemmas.{last_count-append}
use Rattle.volume_model.proofs.LegalLemmas.{answers_from-append}
use Rattle.volume_model.proofs.ServedLemmas.{behind-streams, served_streams-push}
use Rattle.frame_wire.specs.Spelling.{IsFrame}
use Rattle.client_worker.specs.Exchanges.{AreCarried}
use Rattle.world_holder.specs.View.{own_entries}
use Rattle.stream_turns.specs.Run.{StandInTurn, store_in}
use Rattle.stream_turns.specs.Turns.{AreWell, IsTurn, AreTurns}
use Rattle.world_holder.proofs.Entries.{own-append}
use Rattle.stream_turns.proofs.Own.{no_faults, no_answers, none_own}
use Rattle.stream_turns.proofs.RunLemmas.{more_in_turn}
use Rattle.std.proofs.lemmas.List.Elements.{All-nil}
use Rattle.stream_steps.specs.Mine.{Placed}
use Rattle.client_worker.specs.Exchanges.{IsCarried}

-- ---- the calls of streams

at_end : (css : List (List Call)) (cs : List Call) → stream_of (css ++ cs ∷ []) (length css) ≡ cs
at_end [] cs = refl
at_end (ds ∷ css) cs = at_end css cs

elsewhere : (css : List (List Call)) (cs : List Call) (w : ℕ) → w ≢ length css → stream_of (css ++ cs ∷ []) w ≡ stream_of css w
elsewhere [] cs zero apart = absurd (apart refl)
elsewhere [] cs (suc w) apart = refl
elsewhere (ds ∷ css) cs zero apart = refl
elsewhere (ds ∷ css) cs (suc w) apart = elsewhere css cs w (λ e. apart (ap suc e))

-- the calls of answers do not depend on where they stand
abbrev pub calls_at : ℕ → ℕ → List Entry → List Call
calls_at w place es = map (λ (p : ℕ × Answer). p.1.call) (answers_from w place es)

either : (b : Bool) (p q : ℕ) (a : Answer) (xs ys : List (ℕ × Answer))
    → map (λ (p : ℕ × Answer). p.1.call) xs ≡ map (λ (p : ℕ × Answer). p.1.call) ys
    → map (λ (p : ℕ × Answer). p.1.call) (cond b ((p, a) ∷ xs) xs) ≡ map (λ (p : ℕ × Answer). p.1.call) (cond b ((q, a) ∷ ys) ys)
either true p q a xs ys e = ap (λ l. a.call ∷ l) e
either false p q a xs ys e = e

anywhere : (w p q : ℕ) (es : List Entry) → calls_at w p es ≡ calls_at w q es
anywhere w p q [] = refl
anywhere w p q (entry.Answer a ∷ es) = either (eqb a.stream w) p q a (answers_from w (suc p) es) (answers_from w (suc q) es)
    (anywhere w (suc p) (suc q) es)
anywhere w p q (entry.Mark m ∷ es) = anywhere w (suc p) (suc q) es

pub calls_of-append : (w : ℕ) (xs ys : List Entry) → calls_of w (xs ++ ys) ≡ calls_of w xs ++ calls_of w ys
calls_of-append w xs ys =
    ap (map (λ (p : ℕ × Answer). p.1.call)) (answers_from-append w 0 xs ys)
    ∙ map-append (λ (p : ℕ × Answer). p.1.call) (answers_from w 0 xs) (answers_from w (0 + length xs) ys)
    ∙ ap (λ l. calls_of w xs ++ l) (anywhere w (0 + length xs) 0 ys)

-- ---- two stores that tell the same

-- a call has an entry
some_entry : (xs : List Entry) (x : Entry) (ys : List Entry) → 0 < length ((xs ++ x ∷ []) ++ ys)
some_entry [] x ys = omega arith
some_entry (y ∷ xs) x ys = omega arith

-- A store is asked only at places from where the entries begin to where they end.
module _ (store store2 : Store) where
  abbrev SameIn : ℕ → ℕ → Type 0
  SameIn place count = (p : ℕ) → place ≤ p → p < place + count → store p ≡ store2 p

  pub same_from : (spot : Spot) (w place index : ℕ) (cs : List Call)
      → SameIn place (length (served_from store spot w place index cs))
      → served_from store spot w place index cs ≡ served_from store2 spot w place index cs
  same_from spot w place index [] same = refl
  same_from spot w place index (c ∷ cs) same =
      let more = same_from (after_done spot c) w (behind place here) (suc index) cs
      (λ p low high. same p (omega (arith, low)) (omega (arith, high, long))) in
      λ i. first i ++ (more ∙ there) i
    where
      here : List Entry
      here = entries_by (store place) spot w place index c

      why : Option Refusal
      why = refused_by (store place) spot c

      here2 : List Entry
      here2 = entries_by (store2 place) spot w place index c

      rest : List Entry
      rest = served_from store (after_done spot c) w (behind place here) (suc index) cs

      long : length (here ++ rest) ≡ length here + length rest
      long = length-append here rest

      first : here ≡ here2
      first = ap (λ told. entries_by told spot w place index c) (same place (omega arith)
          (omega (arith, some_entry (marks_unless why spot c) (answer_for why spot w place index c) rest)))

      there : served_from store2 (after_done spot c) w (behind place here) (suc index) cs
          ≡ served_from store2 (after_done spot c) w (behind place here2) (suc index) cs
      there = ap (λ l. served_from store2 (after_done spot c) w (behind place l) (suc index) cs) first

  pub same_streams : (spot : Spot) (w place : ℕ) (css : List (List Call))
      → SameIn place (length (served_streams store spot w place css))
      → served_streams store spot w place css ≡ served_streams store2 spot w place css
  same_streams spot w place [] same = refl
  same_streams spot w place (cs ∷ css) same =
      let more = same_streams (after_calls spot cs) (suc w) (behind place here) css
      (λ p low high. same p (omega (arith, low)) (omega (arith, high, long))) in
      λ i. first i ++ (more ∙ there) i
    where
      here : List Entry
      here = served_from store spot w place 0 cs

      here2 : List Entry
      here2 = served_from store2 spot w place 0 cs

      rest : List Entry
      rest = served_streams store (after_calls spot cs) (suc w) (behind place here) css

      long : length (here ++ rest) ≡ length here + length rest
      long = length-append here rest

      first : here ≡ here2
      first = same_from spot w place 0 cs (λ p low high. same p low (omega (arith, high, long)))

      there : served_streams store2 (after_calls spot cs) (suc w) (behind place here) css
          ≡ served_streams store2 (after_calls spot cs) (suc w) (behind place here2) css
      there = ap (λ l. served_streams store2 (after_calls spot cs) (suc w) (behind place l) css) first

-- what a journal tells of the store stays while more comes
pub same_store : (before added : List Entry) (p : ℕ) → p < length before → store_in before p ≡ store_in (before ++ added) p
same_store [] added p low = absurd (omega (arith, low))
same_store (e ∷ before) added zero low = refl
same_store (e ∷ before) added (suc p) low = same_store before added p (omega (arith, low))

-- ---- no stream

pub no_turns : (opening : Spot) (replicas : ℕ) (counts : ℕ → ℕ → ℕ) (carried : ℕ → ℕ → Option (List (List ℕ)))
    → AreTurns opening replicas [] [] counts carried
no_turns opening replicas counts carried = record {
  none = λ w past. refl;
  calls = λ w. refl;
  counted = λ w r. omega arith;
  carried = λ w. All-nil (λ (p : Placed). IsCarried replicas (carried w) p.spot.modes p.entry);
  framed = λ w r low. absurd (omega (arith, low));
  order = tt;
  turns = λ well. refl;
}

-- ---- one more

module _ (opening : Spot) (replicas : ℕ) (css : List (List Call)) (cs : List Call) (before after : List Entry)
    (counts counts' : ℕ → ℕ → ℕ) (carried carried' : ℕ → ℕ → Option (List (List ℕ)))
    (turns : AreTurns opening replicas css before counts carried)
    (one : IsTurn opening replicas (length css) cs before after (counts' (length css)) (carried' (length css)))
    (same_counts : (w r : ℕ) → w ≢ length css → counts' w r ≡ counts w r)
    (same_carried : (w r : ℕ) → w ≢ length css → carried' w r ≡ carried w r) where
  -- what others see stays
  own_stays : (w : ℕ) → w ≢ length css → own_entries w opening after ≡ own_entries w opening before
  own_stays w apart =
      ap (own_entries w opening) one.is ∙ own-append w opening before one.added
      ∙ ap (λ l. own_entries w opening before ++ l)
      (none_own (length css) w (behind_entries opening before) one.added apart one.own)
      ∙ append-nil (own_entries w opening before)

  count_stays : (w r : ℕ) → w ≢ length css → last_count w r after ≡ last_count w r before
  count_stays w r apart =
      ap (last_count w r) one.is ∙ last_count-append w r before one.added
      ∙ ap (last_in (last_count w r before)) (no_faults (length css) w r one.added apart one.own)

  calls_stay : (w : ℕ) → w ≢ length css → calls_of w after ≡ calls_of w before
  calls_stay w apart =
      ap (calls_of w) one.is ∙ calls_of-append w before one.added
      ∙ ap (λ l. calls_of w before ++ map (λ (p : ℕ × Answer). p.1.call) l)
      (no_answers (length css) w 0 one.added apart one.own) ∙ append-nil (calls_of w before)

  calls_more : calls_of (length css) after ≡ cs
  calls_more =
      ap (calls_of (length css)) one.is ∙ calls_of-append (length css) before one.added
      ∙ ap (λ l. l ++ calls_of (length css) one.added) (turns.calls (length css) ∙ get_or_past css (length css) [] (omega arith))
      ∙ one.calls

  many : length (css ++ cs ∷ []) ≡ suc (length css)
  many = omega (arith, length-append css (cs ∷ []))

  all_turns : ((w : ℕ) → w < length (css ++ cs ∷ []) → AreWell replicas (counts' w))
      → after ≡ served (store_in after) opening (css ++ cs ∷ [])
  all_turns well =
      one.is ∙ (λ i. first i ++ (one.turn (well (length css) (omega (arith, many))) ∙ second) i)
      ∙ sym (served_streams-push (store_in after) opening 0 0 css cs)
    where
      told : before ≡ served (store_in before) opening css
      told = turns.turns (λ w low r there. sym (same_counts w r (omega (arith, low))) ∙ well w (omega (arith, low, many)) r there)

      first : before ≡ served (store_in after) opening css
      first = told ∙ same_streams (store_in before) (store_in after) opening 0 0 css (λ p low high.
          same_store before one.added p (omega (arith, high, ap length told)) ∙ ap (λ l. store_in l p) (sym one.is))

      stands : behind_entries opening before ≡ after_streams opening css
      stands = ap (behind_entries opening) first ∙ behind-streams (store_in after) opening 0 0 css

      zero_more : (n : ℕ) → n ≡ 0 + n
      zero_more n = omega arith

      second : served_from (store_in after) (behind_entries opening before) (length css) (length before) 0 cs
          ≡ served_from (store_in after) (after_streams opening css) (0 + length css)
          (behind 0 (served_streams (store_in after) opening 0 0 css)) 0 cs
      second = λ i. served_from (store_in after) (stands i) (zero_more (length css) i)
          ((ap length first ∙ zero_more (length (served (store_in after) opening css))) i) 0 cs

  pub more_turns : AreTurns opening replicas (css ++ cs ∷ []) after counts' carried'
  more_turns = record {
    none = λ w past. own_stays w (omega (arith, many)) ∙ turns.none w (omega (arith, many));
    calls = λ w. elim (eqb_tells w (length css)) [
      | inl is ↦ subst (λ n. calls_of n after ≡ stream_of (css ++ cs ∷ []) n) (sym is.1) (calls_more ∙ sym (at_end css cs))
      | inr other ↦ calls_stay w other.1 ∙ turns.calls w ∙ sym (elsewhere css cs w other.1)
    ];
    counted = λ w r. elim (eqb_tells w (length css)) [
      | inl is ↦ subst (λ n. last_count n r after ≤ counts' n r) (sym is.1) (one.counted r)
      | inr other ↦ omega (arith, count_stays w r other.1, turns.counted w r, same_counts w r other.1)
    ];
    carried = λ w. elim (eqb_tells w (length css)) [
      | inl is ↦ subst (λ n. AreCarried replicas (carried' n) (own_entries n opening after)) (sym is.1) one.carried
      | inr other ↦ subst (AreCarried replicas (carried' w)) (sym (own_stays w other.1))
          (subst (λ told. AreCarried replicas told (own_entries w opening before))
          (λ i r. sym (same_carried w r other.1) i) (turns.carried w))
    ];
    framed = λ w r low there. elim (eqb_tells w (length css)) [
      | inl is ↦ subst (λ n. IfSome (carried' n r) (All IsFrame)) (sym is.1) (one.framed r there)
      | inr other ↦ subst (λ t. IfSome t (All IsFrame)) (sym (same_carried w r other.1))
          (turns.framed w r (omega (arith, low, many, other.1)) there)
    ];
    order = subst (StandInTurn 0) (sym one.is) (
        more_in_turn (length css) 0 opening before one.added (omega arith) turns.none one.own turns.order);
    turns = all_turns;
  }
