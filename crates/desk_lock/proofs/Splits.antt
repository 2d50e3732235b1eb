-- Splitting a seat off the first, and joining one into it, keep the rule of a desk.
use Rattle.std.proofs.Common.{◌≡◌, ◌≢◌, ℕ, ◌+◌, ◌^◌, ◌<◌, ◌≤◌, max, Bool, true, false, cond, eqb, List, [], ◌∷◌, ◌++◌, length}
use Rattle.std.proofs.Common.{set, Option, Some, None, refl, sym, ap, ◌∙◌, subst, ⊎_elim, arith, length-set}
use Rattle.std.proofs.Common.{length-append, eq-eqb, ne_eqb}
use mathlib.Core.Option.{some}
use mathlib.Core.Logic.{dite}
use native.Mathlib.Decide.{ℕ_discrete}
use lib.ListN.{get_elem?}
use Rattle.atomic_table.specs.Table.{Splits, Joins}
use Rattle.atomic_table.proofs.Lists.{set_here, set_else, at_longer}
use Rattle.desk_lock.specs.declared.views.Known.{Known}
use Rattle.desk_lock.specs.declared.views.View.{View}
use Rattle.desk_lock.specs.declared.views.View.TheVariants.{Spent, Knows}
use Rattle.desk_lock.specs.declared.views.Stage.TheVariants.{Idle}
use Rattle.desk_lock.specs.Account.{Account, Each, Finds, IsSilent}
use Rattle.desk_lock.specs.Known.{known_with}
use Rattle.desk_lock.specs.Rule.{number_or, ticket, has_ticket, holds_it, out_of, told_in, Says, SaysAt, first_after, newcomer, both_of}
use Rattle.desk_lock.specs.Rule.{Placed}
use Rattle.desk_lock.proofs.Lists.{Each-map, Each-snoc, outs-set, outs-snoc, seats_stay, apart_stays, at_below, end_says, apart_snoc}
use Rattle.desk_lock.proofs.Stages.{knows_is, one_view, R, Sits, spent_not_known, lies_moved, told_stays, heard_of}

-- a seat is split off
abbrev split_seats : ℕ → ℕ → (ℕ → ℕ) → ℕ → ℕ
split_seats made at seat_of n = cond (eqb n made) at (seat_of n)

split_old : (made at : ℕ) (seat_of : ℕ → ℕ) (n : ℕ) → n < made → split_seats made at seat_of n ≡ seat_of n
split_old made at seat_of n lt = ap (λ b. cond b at (seat_of n)) (ne_eqb n made (λ e. omega arith))

split_new : (made at : ℕ) (seat_of : ℕ → ℕ) (n : ℕ) → n ≡ made → split_seats made at seat_of n ≡ at
split_new made at seat_of n is = ap (λ b. cond b at (seat_of n)) (eq-eqb n made is)

split_else : (made at : ℕ) (seat_of : ℕ → ℕ) (n : ℕ) → n ≢ made → split_seats made at seat_of n ≡ seat_of n
split_else made at seat_of n ne = ap (λ b. cond b at (seat_of n)) (ne_eqb n made ne)

split_zero : (made : ℕ) (seat_of : ℕ → ℕ) (n : ℕ) → seat_of n ≡ 0 → split_seats made 0 seat_of n ≡ 0
split_zero made seat_of n is = either_way (eqb n made)
  where
    either_way : (b : Bool) → cond b 0 (seat_of n) ≡ 0
    either_way true = refl
    either_way false = is

module _ {S Entry OpenCall Origin : Type 0} (account : Account S Entry OpenCall Origin) where
  pub splits : (id : ℕ) (v : Known S) (told : ℕ) → v.number ≡ None → v.made + 1 < 2 ^ 64
      → Splits (R account) id (Knows v told) (first_after (Knows v told)) (newcomer (Knows v told))
  splits id v told first room s r at =
      let mine = r.each_seat id v (told, at) in
      let place = subst (Placed account r.made r.seat_of r.now id v) first mine.placed in
      let top = place.1 in
      let made : ℕ = r.made + 1 in
      let left : Known S = known_with v.number v.last v.stage (v.made + 1) v.joined in
      let right : Known S = known_with (Some v.made) v.last Idle 0 [] in
      let vs : List (View S) = set s.views id (Knows left told) in
      let seat_of : ℕ → ℕ = split_seats r.made (length s.views) r.seat_of in
      let sum = outs-set s.views id (Knows v told) (Knows left told) at in
      let more = outs-snoc vs (Knows right 0) refl in
      let all = r.counted in
      let wide = r.wide in
      let long = length-set s.views id (Knows left told) in
      let longer = length-append vs (Knows right 0 ∷ []) in
      let was_silent = r.silent v.made (omega arith) in
      let last_silent = place.4 v.made (omega arith) in
      let inside : id < length s.views = at_below s.views id (Knows v told) at in record {
        served = r.served;
        drawn = r.drawn;
        made = made;
        seat_of = seat_of;
        now = r.now;
        words = r.words;
        counted = omega arith;
        wide = omega arith;
        few = omega arith;
        lies = lies_moved r.now s.words s.homes s.views (vs ++ Knows right 0 ∷ []) (λ j u there h. dite (ℕ_discrete j id)
            (λ e. let is : u ≡ v = one_view s.views id u v (subst (λ (z : ℕ). SaysAt s.views z u) e there) (told, at) in (
              id,
              left,
              (told, at_longer vs (Knows right 0 ∷ []) id (Knows left told) (set_here s.views id (Knows left told) inside)),
              ap (λ (z : Known S). holds_it z.stage) (sym is) ∙ h,
            ))
            (λ ne. (
              j,
              u,
              (there.0, at_longer vs (Knows right 0 ∷ []) j (Knows u there.0) (set_else s.views id j (Knows left told) ne ∙ there.1)),
              h,
            ))) r.lies;
        sound = r.sound;
        each_seat = λ j u e. ⊎_elim
            (seats_stay (Sits account r.served r.drawn made seat_of r.now s.homes) s.views id (Knows left told)
            (λ u e. subst (Sits account r.served r.drawn made seat_of r.now s.homes id) (knows_is left told u e)
            record {
              finds = mine.finds;
              on_stage = mine.on_stage;
              placed = subst (Placed account made seat_of r.now id left) (sym first) (
                place.0,
                ap (λ (z : ℕ). z + 1) top,
                place.2,
                Each-map (λ (p : ℕ × S). (p.0 < r.made) × (r.seat_of p.0 ≡ 0)) (λ (p : ℕ × S). (p.0 < made) × (seat_of p.0 ≡ 0))
                    (λ p q. let h = q.0 in (omega arith, split_old r.made (length s.views) r.seat_of p.0 q.0 ∙ q.1)) v.joined place.3,
                λ n le. place.4 n (omega arith),
              );
            })
            (λ j u ne there. let t = r.each_seat j u there in
            record { finds = t.finds; on_stage = t.on_stage; placed = placed_other j u ne place.0 u.number t.placed }) j u)
            (λ (q : (j ≡ length vs) × Says (Knows right 0) u). subst
            (λ (z : ℕ × Known S). Sits account r.served r.drawn made seat_of r.now s.homes z.0 z.1)
            (λ i. (sym q.0 i, knows_is right 0 u q.1 i))
            record {
              finds = newly mine.finds was_silent last_silent;
              on_stage = tt;
              placed = (
                omega arith,
                split_new r.made (length s.views) r.seat_of v.made top
                    ∙ sym long,
                (λ (e : length vs ≡ 0). omega arith),
                refl,
              );
            })
            (end_says vs j (Knows right 0) u e);
        told = Each-snoc (λ (z : View S). told_in z ≤ length (account.journal r.now)) vs (Knows right 0)
            (told_stays account r.now r.now s.views id (Knows v told) (Knows left told) r.told at (λ n le. le) (λ le. le)) (omega arith);
        apart = apart_snoc vs (Knows right 0)
            (apart_stays s.views id (Knows left told) r.apart
            (λ x u b j e xt ne there ut. ne
            (r.apart j id u v b there (told, at) ut (ap (λ (z : Known S). ticket z.stage) (knows_is left told x e) ∙ xt))))
            (λ x e. ap (λ (z : Known S). ticket z.stage) (sym (knows_is right 0 x e)));
        silent = λ n le. r.silent n (omega arith);
      }
    where
      newly : Finds account v.number r.now v.last → IsSilent account v.made r.now → IsSilent account v.made v.last
          → Finds account (Some v.made) r.now v.last
      newly f was before = record {
        same_origin = f.same_origin;
        seen = f.seen;
        mine = was.entries ∙ sym before.entries;
        running = was.running ∙ sym before.running;
        counted = subst (Each (λ c. account.counts_on c v.last r.now)) (sym before.running) tt;
      }

      placed_other : (j : ℕ) (u : Known S) → j ≢ id → id ≡ 0 → (m : Option ℕ) → Placed account r.made r.seat_of r.now j u m
          → Placed account (r.made + 1) (split_seats r.made (length s.views) r.seat_of) r.now j u m
      placed_other j u ne zero_is None p = absurd (ne (p.0 ∙ sym zero_is))
      placed_other j u ne zero_is (Some m) p = let h = p.0 in
          (omega arith, split_old r.made (length s.views) r.seat_of m p.0 ∙ p.1, p.2, p.3)

  pub joins : (id : ℕ) (v : Known S) (told other : ℕ) (w : Known S) (heard n : ℕ)
      → v.number ≡ None → w.number ≡ Some n → w.stage ≡ Idle
      → Joins (R account) id (Knows v told) other (Knows w heard) (both_of (Knows v told) (Knows w heard)) Spent
  joins id v told other w heard n first is idle s r at apart there =
      let mine = r.each_seat id v (told, at) in
      let place = subst (Placed account r.made r.seat_of r.now id v) first mine.placed in
      let both : Known S = known_with v.number v.last v.stage v.made ((number_or 0 w.number, w.last) ∷ v.joined) in
      let most : ℕ = max told heard in
      let vs : List (View S) = set s.views id (Knows both most) in
      let there' : get_elem? s.views other ≡ some (Knows w heard) = sym (set_else s.views id other (Knows both most) apart) ∙ there in
      let theirs = r.each_seat other w (heard, there') in
      let theirs_told = heard_of account s r other w (heard, there') in
      let mine_told = heard_of account s r id v (told, at) in
      let place' = subst (Placed account r.made r.seat_of r.now other w) is theirs.placed in
      let num : number_or 0 w.number ≡ n = ap (number_or 0) is in
      let seat_of : ℕ → ℕ = split_seats n 0 r.seat_of in
      let sum = outs-set s.views id (Knows v told) (Knows both most) at in
      let sum' = outs-set vs other (Knows w heard) Spent there in
      let none_out : out_of (Knows w heard) ≡ 0 = ap has_ticket idle in
      let all = r.counted in
      let inside : id < length s.views = at_below s.views id (Knows v told) at in record {
        served = r.served;
        drawn = r.drawn;
        made = r.made;
        seat_of = seat_of;
        now = r.now;
        words = r.words;
        counted = omega arith;
        wide = length-set vs other Spent ∙ (length-set s.views id (Knows both most) ∙ r.wide);
        few = r.few;
        lies = lies_moved r.now s.words s.homes s.views (set vs other Spent) (λ j u at_j h. dite (ℕ_discrete j id)
            (λ e. let same : u ≡ v = one_view s.views id u v (subst (λ (z : ℕ). SaysAt s.views z u) e at_j) (told, at) in (
              id,
              both,
              (most, set_else vs other id Spent (λ f. apart (sym f)) ∙ set_here s.views id (Knows both most) inside),
              ap (λ (z : Known S). holds_it z.stage) (sym same) ∙ h,
            ))
            (λ ne. dite (ℕ_discrete j other)
            (λ e. let same : u ≡ w = one_view s.views other u w (subst (λ (z : ℕ). SaysAt s.views z u) e at_j) (heard, there') in
            let f : true ≡ false = sym h ∙ (ap (λ (z : Known S). holds_it z.stage) same ∙ ap holds_it idle) in absurd (cc))
            (λ ne'. (
              j,
              u,
              (at_j.0, set_else vs other j Spent ne' ∙ (set_else s.views id j (Knows both most) ne ∙ at_j.1)),
              h,
            )))) r.lies;
        sound = r.sound;
        each_seat = seats_stay (Sits account r.served r.drawn r.made seat_of r.now s.homes) vs other Spent
            (λ u e. absurd (spent_not_known u e))
            (λ j u ne' at_j. seats_stay (λ j u. j ≢ other → Sits account r.served r.drawn r.made seat_of r.now s.homes j u)
            s.views id (Knows both most)
            (λ u e _. subst (Sits account r.served r.drawn r.made seat_of r.now s.homes id) (knows_is both most u e)
            record {
              finds = mine.finds;
              on_stage = mine.on_stage;
              placed = subst (Placed account r.made seat_of r.now id both) (sym first) (
                place.0,
                place.1,
                (subst (λ (m : Option ℕ). Finds account m r.now w.last) (is ∙ ap Some (sym num)) theirs.finds, place.2),
                (
                  (subst (λ (m : ℕ). m < r.made) (sym num) place'.0, split_new n 0 r.seat_of (number_or 0 w.number) num),
                  Each-map (λ (p : ℕ × S). (p.0 < r.made) × (r.seat_of p.0 ≡ 0)) (λ (p : ℕ × S). (p.0 < r.made) × (seat_of p.0 ≡ 0))
                      (λ p q. (q.0, split_zero n r.seat_of p.0 q.1)) v.joined place.3,
                ),
                place.4,
              );
            })
            (λ j u ne there ne'. let t = r.each_seat j u there in
            record { finds = t.finds; on_stage = t.on_stage; placed = placed_other j u ne ne' place.0 place'.1 u.number t.placed })
            j u at_j ne');
        told = told_stays account r.now r.now vs other (Knows w heard) Spent
            (told_stays account r.now r.now s.views id (Knows v told) (Knows both most) r.told at (λ m le. le) (λ _. omega arith))
            there (λ m le. le) (λ _. omega arith);
        apart = apart_stays vs other Spent
            (apart_stays s.views id (Knows both most) r.apart
            (λ x u b j e xt ne there ut. ne
            (r.apart j id u v b there (told, at) ut (ap (λ (z : Known S). ticket z.stage) (knows_is both most x e) ∙ xt))))
            (λ x u b j e xt ne there ut. spent_not_known x e);
        silent = r.silent;
      }
    where
      placed_other : (j : ℕ) (u : Known S) → j ≢ id → j ≢ other → id ≡ 0 → r.seat_of n ≡ other → (m : Option ℕ)
          → Placed account r.made r.seat_of r.now j u m
          → Placed account r.made (split_seats n 0 r.seat_of) r.now j u m
      placed_other j u ne ne' zero_is theirs None p = absurd (ne (p.0 ∙ sym zero_is))
      placed_other j u ne ne' zero_is theirs (Some m) p =
          (p.0, split_else n 0 r.seat_of m (λ e. ne' (sym p.1 ∙ (ap r.seat_of e ∙ theirs))) ∙ p.1, p.2, p.3)
