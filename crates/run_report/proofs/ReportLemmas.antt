-- How the lines of a report are printed from left to right, and how frames that reply are digested so.
use Rattle.std.proofs.Common.{◌≡◌, ℕ, suc, ◌+◌, ◌<◌, ◌≤◌, Bool, true, false, cond, eqb, List, [], ◌∷◌, ◌++◌, length}
use Rattle.std.proofs.Common.{get_or, drop, refl, sym, ap, ◌∙◌, append_assoc, append-nil, add-one, drop-cons}
use Rattle.std.proofs.Math.ListN.{drop_of_length-le}
use Rattle.std.proofs.lemmas.Bool.{eq-eqb, ne_eqb}
use Rattle.std.specs.List.{flat_map, zip}
use Rattle.volume_model.specs.declared.entry.Entry.{Entry}
use Rattle.volume_model.specs.declared.entry.Entry.TheVariants as entry
use Rattle.volume_model.specs.declared.entry.Answer.{Answer}
use Rattle.volume_model.specs.History.{answers_from, answers_of}
use Rattle.volume_model.specs.Marks.{IsMark}
use Rattle.frame_wire.specs.declared.head.Head.{Head}
use Rattle.run_report.specs.Lines.{entry_line}
use Rattle.run_report.specs.Report.{journal_lines, reply_lines, replies_from}
use Rattle.run_report.specs.Sessions.{session_line, session_lines}
use Rattle.run_report.specs.declared.session_line.EndedSession.{EndedSession}

cond_is_true : {A : Type 0} (b : Bool) (x y : A) → b ≡ true → cond b x y ≡ x
cond_is_true b x y e = rw e refl

cond_is_false : {A : Type 0} (b : Bool) (x y : A) → b ≡ false → cond b x y ≡ y
cond_is_false b x y e = rw e refl

-- the next line, and the lines behind it
pub next_line : (into whole : List ℕ) (place : ℕ) (entries : List Entry) (e : Entry) → place < length entries → get_or entries place e ≡ e
    → into ++ journal_lines place (drop place entries) ≡ whole
    → (into ++ entry_line place e) ++ journal_lines (place + 1) (drop (place + 1) entries) ≡ whole
next_line into whole place entries e inside is text =
    let cut : drop place entries ≡ e ∷ drop (suc place) entries = drop-cons entries place e inside
    ∙ ap (λ x. x ∷ drop (suc place) entries) is in
    append_assoc into (entry_line place e) _
    ∙ ap (λ n. into ++ (entry_line place e ++ journal_lines n (drop n entries))) (add-one place)
    ∙ ap (λ l. into ++ journal_lines place l) (sym cut) ∙ text

-- the line of the next session, and those of the sessions behind it
pub next_session : (into whole : List ℕ) (k : ℕ) (sessions : List EndedSession) (s : EndedSession) → k < length sessions
    → get_or sessions k s ≡ s → into ++ session_lines k (drop k sessions) ≡ whole
    → (into ++ session_line k s) ++ session_lines (k + 1) (drop (k + 1) sessions) ≡ whole
next_session into whole k sessions s inside is text =
    let cut : drop k sessions ≡ s ∷ drop (suc k) sessions = drop-cons sessions k s inside ∙ ap (λ x. x ∷ drop (suc k) sessions) is in
    append_assoc into (session_line k s) _
    ∙ ap (λ n. into ++ (session_line k s ++ session_lines n (drop n sessions))) (add-one k)
    ∙ ap (λ l. into ++ session_lines k l) (sym cut) ∙ text

-- the answers of a stream from an entry on
answers-cut : (stream place : ℕ) (entries : List Entry) (a : Answer) → place < length entries
    → get_or entries place (entry.Answer a) ≡ entry.Answer a
    → answers_from stream place (drop place entries)
    ≡ cond (eqb a.stream stream) ((place, a) ∷ answers_from stream (place + 1) (drop (place + 1) entries))
    (answers_from stream (place + 1) (drop (place + 1) entries))
answers-cut stream place entries a inside is =
    let cut : drop place entries ≡ entry.Answer a ∷ drop (suc place) entries =
    drop-cons entries place (entry.Answer a) inside ∙ ap (λ x. x ∷ drop (suc place) entries) is in
    ap (answers_from stream place) cut
    ∙ ap (λ n. cond (eqb a.stream stream) ((place, a) ∷ answers_from stream n (drop n entries))
    (answers_from stream n (drop n entries))) (sym (add-one place))

-- The entry answers a call of the stream,
pub answers-own : (stream place : ℕ) (entries : List Entry) (a : Answer) → place < length entries
    → get_or entries place (entry.Answer a) ≡ entry.Answer a → a.stream ≡ stream
    → answers_from stream place (drop place entries) ≡ (place, a) ∷ answers_from stream (place + 1) (drop (place + 1) entries)
answers-own stream place entries a inside is own =
    answers-cut stream place entries a inside is ∙ cond_is_true (eqb a.stream stream) _ _ (eq-eqb _ _ own)

-- or a call of another stream,
pub answers-other : (stream place : ℕ) (entries : List Entry) (a : Answer) → place < length entries
    → get_or entries place (entry.Answer a) ≡ entry.Answer a → (a.stream ≡ stream → ⊥)
    → answers_from stream place (drop place entries) ≡ answers_from stream (place + 1) (drop (place + 1) entries)
answers-other stream place entries a inside is other =
    answers-cut stream place entries a inside is ∙ cond_is_false (eqb a.stream stream) _ _ (ne_eqb _ _ other)

-- or it is a mark.
answers_from-mark : (stream place : ℕ) (e : Entry) (entries : List Entry) → IsMark e
    → answers_from stream place (e ∷ entries) ≡ answers_from stream (suc place) entries
answers_from-mark stream place (entry.Answer a) entries mark = absurd mark
answers_from-mark stream place (entry.Mark m) entries mark = refl

pub answers-mark : (stream place : ℕ) (entries : List Entry) (e : Entry) → place < length entries → get_or entries place e ≡ e
    → IsMark e → answers_from stream place (drop place entries) ≡ answers_from stream (place + 1) (drop (place + 1) entries)
answers-mark stream place entries e inside is mark =
    let cut : drop place entries ≡ e ∷ drop (suc place) entries = drop-cons entries place e inside
    ∙ ap (λ x. x ∷ drop (suc place) entries) is in
    ap (answers_from stream place) cut ∙ answers_from-mark stream place e (drop (suc place) entries) mark
    ∙ ap (λ n. answers_from stream n (drop n entries)) (sym (add-one place))

-- of what is told of frames with these headers, each with its answer: a line of the report, or the frame that replies
module _ (told : Head → Answer → List ℕ) where
  abbrev pub told_of : List Head → List (ℕ × Answer) → List ℕ
  told_of heads answers = flat_map (λ p. told p.0 p.1.1) (zip heads answers)

  same_told : {hs gs : List Head} {ps qs : List (ℕ × Answer)} → hs ≡ gs → ps ≡ qs → told_of hs ps ≡ told_of gs qs
  same_told p q = cc

  -- The entry answers the next header.
  pub next_reply : (into whole : List ℕ) (stream next place : ℕ) (heads : List Head) (entries : List Entry) (h : Head) (a : Answer)
      → place < length entries → get_or entries place (entry.Answer a) ≡ entry.Answer a → next < length heads
      → get_or heads next h ≡ h → a.stream ≡ stream
      → into ++ told_of (drop next heads) (answers_from stream place (drop place entries)) ≡ whole
      → (into ++ told h a) ++ told_of (drop (next + 1) heads) (answers_from stream (place + 1) (drop (place + 1) entries)) ≡ whole
  next_reply into whole stream next place heads entries h a inside is room at own text =
      let cut : drop next heads ≡ h ∷ drop (next + 1) heads =
      drop-cons heads next h room ∙ ap (λ x. x ∷ drop (suc next) heads) at ∙ ap (λ n. h ∷ drop n heads) (sym (add-one next)) in
      append_assoc into (told h a) _
      ∙ ap (λ l. into ++ l) (sym (same_told cut (answers-own stream place entries a inside is own))) ∙ text

  -- The entry answers a call of another stream.
  pub skip_other : (into whole : List ℕ) (stream next place : ℕ) (heads : List Head) (entries : List Entry) (a : Answer)
      → place < length entries → get_or entries place (entry.Answer a) ≡ entry.Answer a → (a.stream ≡ stream → ⊥)
      → into ++ told_of (drop next heads) (answers_from stream place (drop place entries)) ≡ whole
      → into ++ told_of (drop next heads) (answers_from stream (place + 1) (drop (place + 1) entries)) ≡ whole
  skip_other into whole stream next place heads entries a inside is other text =
      ap (λ l. into ++ told_of (drop next heads) l) (sym (answers-other stream place entries a inside is other)) ∙ text

  pub skip_mark : (into whole : List ℕ) (stream next place : ℕ) (heads : List Head) (entries : List Entry) (e : Entry)
      → place < length entries → get_or entries place e ≡ e → IsMark e
      → into ++ told_of (drop next heads) (answers_from stream place (drop place entries)) ≡ whole
      → into ++ told_of (drop next heads) (answers_from stream (place + 1) (drop (place + 1) entries)) ≡ whole
  skip_mark into whole stream next place heads entries e inside is mark text =
      ap (λ l. into ++ told_of (drop next heads) l) (sym (answers-mark stream place entries e inside is mark)) ∙ text

  -- No header is left.
  pub skip_past : (into whole : List ℕ) (next : ℕ) (heads : List Head) (ps qs : List (ℕ × Answer)) → length heads ≤ next
      → into ++ told_of (drop next heads) ps ≡ whole → into ++ told_of (drop next heads) qs ≡ whole
  skip_past into whole next heads ps qs past text =
      let none : drop next heads ≡ [] = drop_of_length-le heads past in
      ap (λ l. into ++ told_of l qs) none ∙ sym (ap (λ l. into ++ told_of l ps) none) ∙ text

  no_answer : (hs : List Head) → told_of hs [] ≡ []
  no_answer [] = refl
  no_answer (h ∷ hs) = refl

  -- no entry is left
  pub no_reply : (into whole : List ℕ) (stream next place : ℕ) (heads : List Head) (entries : List Entry) → length entries ≤ place
      → into ++ told_of (drop next heads) (answers_from stream place (drop place entries)) ≡ whole → into ≡ whole
  no_reply into whole stream next place heads entries past text =
      sym (append-nil into) ∙ ap (λ l. into ++ l) (sym (no_answer (drop next heads)))
      ∙ sym (ap (λ l. into ++ told_of (drop next heads) (answers_from stream place l)) (drop_of_length-le entries past)) ∙ text

-- the replies of the next stream, and those of the streams behind it
pub next_stream : (into whole : List ℕ) (stream : ℕ) (streams : List (List Head)) (entries : List Entry) (hs : List Head)
    → stream < length streams → get_or streams stream hs ≡ hs
    → into ++ replies_from stream (drop stream streams) entries ≡ whole
    → (into ++ reply_lines hs (answers_of stream entries)) ++ replies_from (stream + 1) (drop (stream + 1) streams) entries ≡ whole
next_stream into whole stream streams entries hs inside is text =
    let cut : drop stream streams ≡ hs ∷ drop (suc stream) streams = drop-cons streams stream hs inside
    ∙ ap (λ x. x ∷ drop (suc stream) streams) is in
    append_assoc into (reply_lines hs (answers_of stream entries)) _
    ∙ ap (λ n. into ++ (reply_lines hs (answers_of stream entries) ++ replies_from n (drop n streams) entries)) (add-one stream)
    ∙ ap (λ l. into ++ replies_from stream l entries) (sym cut) ∙ text
