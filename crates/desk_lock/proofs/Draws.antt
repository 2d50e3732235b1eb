-- Drawing a ticket keeps the rule of a desk.
use Rattle.std.proofs.Common.{◌≡◌, ℕ, ◌+◌, ◌%◌, ◌^◌, ◌==◌, Option, List, [], ◌∷◌, length}
use Rattle.std.proofs.Common.{set, get_or, Some, refl, sym, ap, ◌∙◌, subst, arith, length-set}
use mathlib.Core.Option.{some}
use mathlib.Core.Option as maybe
use prog.Atomic.{either}
use Rattle.atomic_table.specs.Table.{State, Act, step, keeps, stepped, Valid, carried_after, Allows}
use Rattle.atomic_table.proofs.Lists.{exchanged}
use Rattle.desk_lock.specs.declared.views.Known.{Known}
use Rattle.desk_lock.specs.declared.views.View.{View}
use Rattle.desk_lock.specs.declared.views.View.TheVariants.{Knows}
use Rattle.desk_lock.specs.declared.views.Stage.TheVariants.{Idle, Waits}
use Rattle.desk_lock.specs.Account.{Account}
use Rattle.desk_lock.specs.Known.{staged}
use Rattle.desk_lock.specs.Rule.{Place, ticket, has_ticket, holds_it, out_of, Says, SaysAt, drew}
use Rattle.desk_lock.proofs.Lists.{outs-set, outs-le, seats_stay, apart_stays}
use Rattle.desk_lock.proofs.Stages.{wraps, knows_is, same_known, told_is, ticket_within, more_drawn, lies_still}
use Rattle.desk_lock.proofs.Stages.{R, Sits, unmoved, told_stays}

module _ {S Entry OpenCall Origin : Type 0} (account : Account S Entry OpenCall Origin) where
  drawn_one : (s : State (Option S) (View S)) (r : R account s) (id : ℕ) (cs : List (ℕ × Option S)) (v : Known S)
      → (at : SaysAt s.views id v) → v.stage ≡ Idle
      → R account (stepped s 0 ((get_or s.words 0 0 + 1) % 2 ^ 64) id cs (Knows (staged v (Waits r.drawn)) at.0) keeps)
  drawn_one s r id cs v at idle =
      let a : ℕ = r.drawn in
      let w : Known S = staged v (Waits a) in
      let told : ℕ = at.0 in
      let mine = r.each_seat id v at in
      let sum = outs-set s.views id (Knows v told) (Knows w told) at.1 in
      let was : out_of (Knows v told) ≡ 0 = ap has_ticket idle in
      let all = r.counted in
      let some_out = outs-le s.views in record {
        served = r.served;
        drawn = a + 1;
        made = r.made;
        seat_of = r.seat_of;
        now = r.now;
        words = ap (λ (ws : List ℕ). set ws 0 ((get_or ws 0 0 + 1) % 2 ^ 64)) r.words
            ∙ ap (λ (z : ℕ). z ∷ (r.served % 2 ^ 64) ∷ length (account.journal r.now) ∷ []) (wraps a);
        counted = omega arith;
        wide = length-set s.views id (Knows w told) ∙ r.wide;
        few = r.few;
        lies = lies_still r.now s 0 ((get_or s.words 0 0 + 1) % 2 ^ 64) id cs (Knows v told) (Knows w told) r.lies at.1
            (λ u e. ap (λ (z : Known S). holds_it z.stage) (sym (knows_is v told u e)) ∙ ap holds_it idle);
        sound = r.sound;
        each_seat = seats_stay (Sits account r.served (a + 1) r.made r.seat_of r.now s.homes) s.views id (Knows w told)
            (λ u e. subst (Sits account r.served (a + 1) r.made r.seat_of r.now s.homes id) (knows_is w told u e)
            record { finds = mine.finds; on_stage = (omega arith, omega arith); placed = mine.placed })
            (λ j u ne there. let t = r.each_seat j u there in
            record { finds = t.finds; on_stage = more_drawn r.served a r.now s.homes u.last u.stage t.on_stage; placed = t.placed });
        told = told_stays account r.now r.now s.views id (Knows v told) (Knows w told) r.told at.1 (λ n le. le) (λ le. le);
        apart = apart_stays s.views id (Knows w told) r.apart (λ x u b j e xt ne there ut.
            let f : Some a ≡ Some b = ap (λ (z : Known S). ticket z.stage) (knows_is w told x e) ∙ xt in let g : a ≡ b = cc in
            let t = r.each_seat j u there in let h = (ticket_within r.served a r.now s.homes u.last u.stage b t.on_stage ut).1 in
            omega arith);
        silent = r.silent;
      }

  pub draws : (slots id old next : ℕ) (me : Place S) (v : Known S) → next ≡ (old + 1) % 2 ^ 64
      → Says me.0 v → v.stage ≡ Idle
      → Allows (R account) slots id me 0 (λ n. either (n == old) next n) (drew (step slots 0 old next maybe.none) me)
  draws slots id old next me v one is idle s r _ at _ =
      let n = get_or s.words 0 0 in
      let told : ℕ = is.0 in
      let at' : SaysAt s.views id v = (told, at ∙ ap some is.1) in
      exchanged n old next
      (λ m. (w : View S) × (a : Act (Option S)) × Valid s.homes me.1 a × R account (stepped s 0 m id me.1 w a)
      × drew (step slots 0 old next maybe.none) me n (w, carried_after me.1 a))
      (λ hit. (
        Knows (staged v (Waits r.drawn)) told,
        keeps,
        tt,
        subst (λ m. R account (stepped s 0 m id me.1 (Knows (staged v (Waits r.drawn)) told) keeps))
            (ap (λ m. (m + 1) % 2 ^ 64) hit ∙ sym one)
            (drawn_one s r id me.1 v at' idle),
        (
          λ miss. absurd (miss hit),
          λ _ u other e. let same : Knows v told ≡ Knows u other = sym is.1 ∙ e in (
            r.drawn,
            ap (λ (ws : List ℕ). get_or ws 0 0) r.words,
            λ i. (Knows (staged (same_known v u told other same i) (Waits r.drawn)) (told_is v u told other same i), me.1),
          ),
        ),
      ))
      (λ miss. (
        me.0,
        keeps,
        tt,
        unmoved account s 0 id me.1 me.0 r at,
        (λ _. refl, λ hit. absurd (miss hit)),
      ))
