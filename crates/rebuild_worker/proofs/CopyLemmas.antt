-- Frames on the two lines of a rebuild, one behind another.
use Rattle.std.proofs.Common.{arith, ◌≡◌, ℕ, ◌-◌, List, [], ◌∷◌, ◌++◌, length, drop, length-drop, length-append}
use Rattle.std.proofs.Common.{Option, subst, sym, ap, refl, ◌∙◌, append_assoc, append-nil}
use Rattle.std.proofs.lemmas.List.Elements.{All-append, All-cons, All-nil, All-weaker}
use Rattle.std.proofs.Math.Seq.{drop-append_seam}
use Rattle.frame_wire.specs.declared.head.Head.{Head}
use Rattle.frame_wire.specs.Spelling.{frame, header, IsHead}
use Rattle.page_text.specs.Text.{blocks_of, map_of, page_text}
use Rattle.outer_traits.specs.Lines.{TellsMore}
use Rattle.outer_traits.proofs.Lines.{TellsMore-nil, TellsMore-trans}
use Rattle.vol_units.specs.declared.page_ref.PageRef.{PageRef}
use Rattle.rebuild_worker.specs.Frames.{ask_head, done_head, give_head, send_head, response_kind, source_request}
use Rattle.rebuild_worker.specs.Frames.{source_reply, target_request, target_reply}
use Rattle.rebuild_worker.specs.Copying.{AreQuiet, Copying, KeepsCopying, OnLine, CarriesOn, IsQuiet, IsTextOf, number_after, numbered}
use Rattle.rebuild_worker.specs.Rooms.{text_in}
use Rattle.rebuild_worker.specs.Told.{AreOf, CopiedPage, CopiesPage, CopiesPages, HaveTexts, IsUntold, Lists}
use Rattle.rebuild_worker.specs.Told.{SendsPage, TakesPage, TellPages, to_source, to_target}

-- ---- told one after another

pub tells_still : (a b c : Option (List (List ℕ))) (xs : List (List ℕ)) → TellsMore a b xs → TellsMore b c [] → TellsMore a c xs
tells_still a b c xs p q = subst (λ l. TellsMore a c l) (append-nil xs) (TellsMore-trans a b c xs [] p q)

pub tells_later : (a b c : Option (List (List ℕ))) (xs : List (List ℕ)) → TellsMore a b [] → TellsMore b c xs → TellsMore a c xs
tells_later a b c xs p q = TellsMore-trans a b c [] xs p q

-- ---- an exchange

-- what was carried behind something quiet
pub behind_quiet : (a b c : OnLine) (before after : List ℕ) → IsQuiet a b → CarriesOn b c before after → CarriesOn a c before after
behind_quiet a b c before after quiet carries = record {
  told = tells_later a.told b.told c.told (after ∷ []) quiet.told carries.told;
  spelled = carries.spelled;
  number = λ h body fits is. carries.number h body fits is ∙ ap (λ n. number_after n h.kind) quiet.seq;
}

-- a request and its reply, with one number
pub exchange : (a b c : OnLine) (request asked reply replied : List ℕ) (h k : Head) (body text : List ℕ)
    → CarriesOn a b request asked → CarriesOn b c reply replied → request ≡ frame h body → reply ≡ frame k text → IsHead k
    → k.kind ≡ response_kind
    → TellsMore a.told c.told (frame (numbered b.seq h) body ∷ frame (numbered b.seq k) text ∷ [])
exchange a b c request asked reply replied h k body text p q is_request is_reply fits kind =
    let first : asked ≡ frame (numbered b.seq h) body = p.spelled h body is_request in
    let same : c.seq ≡ b.seq = q.number k text fits is_reply ∙ ap (λ n. number_after b.seq n) kind in
    let second : replied ≡ frame (numbered b.seq k) text = q.spelled k text is_reply ∙ ap (λ n. frame (numbered n k) text) same in
    let told : TellsMore a.told c.told (asked ∷ replied ∷ []) =
    TellsMore-trans a.told b.told c.told (asked ∷ []) (replied ∷ []) p.told q.told in
    subst (λ x. TellsMore a.told c.told (x ∷ frame (numbered b.seq k) text ∷ [])) first
    (subst (λ x. TellsMore a.told c.told (asked ∷ x ∷ [])) second told)

-- ---- a page

module _ (page : PageRef) (before : List ℕ) where
  counted : (head : ℕ → PageRef → ℕ → Head) (k : Head) (n : ℕ) → k ≡ head 0 page n → n ≡ length before - 26
      → k ≡ head 0 page (length (text_in before))
  counted head k n is count = is ∙ ap (λ m. head 0 page m) (count ∙ sym (length-drop 26 before))

  pub taken : (a b d : OnLine) (request asked reply replied : List ℕ) (k : Head) (n : ℕ) → CarriesOn a b request asked
      → CarriesOn b d reply replied
      → request ≡ source_request 0 page → reply ≡ frame k (text_in before) → k ≡ give_head 0 page n → IsHead k
      → n ≡ length before - 26 → TakesPage page (text_in before) a d
  unfolding source_request source_reply
  taken a b d request asked reply replied k n p q is_request is_reply k_is fits count =
      let head = counted give_head k n k_is count in
      let h = ask_head 0 page (length page.layer) in
      let give = give_head 0 page (length (text_in before)) in (
        b.seq,
        exchange a b d request asked reply replied h give page.layer (text_in before) p q is_request
            (is_reply ∙ ap (λ x. frame x (text_in before)) head) (subst IsHead head fits) refl,
      )

  pub sent : (a b c d : OnLine) (request asked reply replied : List ℕ) (h k : Head) (n : ℕ) → CarriesOn a b request asked
      → IsQuiet b c → CarriesOn c d reply replied
      → request ≡ frame h (text_in before) → h ≡ send_head 0 page n → reply ≡ header k → k ≡ done_head 0 page n → IsHead k
      → n ≡ length before - 26 → SendsPage page (text_in before) a d
  unfolding target_request target_reply
  sent a b c d request asked reply replied h k n p quiet q is_request h_is is_reply k_is fits count =
      let send = counted send_head h n h_is count in
      let has = counted done_head k n k_is count in (
        b.seq,
        exchange a b d request asked reply replied (send_head 0 page (length (text_in before)))
            (done_head 0 page (length (text_in before))) (text_in before) []
            p (behind_quiet b c d reply replied quiet q) (is_request ∙ ap (λ x. frame x (text_in before)) send)
            (is_reply ∙ sym (append-nil (header k)) ∙ ap (λ x. frame x []) has) (subst IsHead has fits) refl,
      )

  -- the text stays behind another header
  pub text_stays : (a b : OnLine) (frame_old frame_new : List ℕ) (k : Head) → CarriesOn a b frame_old frame_new
      → frame_old ≡ frame k (text_in before) → text_in frame_new ≡ text_in before
  text_stays a b frame_old frame_new k p is = ap text_in (p.spelled k (text_in before) is)

-- what was sent later, and what was taken before
pub sends_later : (page : PageRef) (text : List ℕ) (a b c : OnLine) → IsUntold a b → SendsPage page text b c → SendsPage page text a c
sends_later page text a b c untold sends = (
  sends.0,
  tells_later a.told b.told c.told (target_request sends.0 page text ∷ target_reply sends.0 page text ∷ [])
      untold sends.1,
)

pub takes_still : (page : PageRef) (text : List ℕ) (a b c : OnLine) → TakesPage page text a b → IsUntold b c → TakesPage page text a c
takes_still page text a b c takes untold = (
  takes.0,
  tells_still a.told b.told c.told (source_request takes.0 page ∷ source_reply takes.0 page text ∷ []) takes.1
      untold,
)

pub takes_later : (page : PageRef) (text : List ℕ) (a b c : OnLine) → IsUntold a b → TakesPage page text b c → TakesPage page text a c
takes_later page text a b c untold takes = (
  takes.0,
  tells_later a.told b.told c.told (source_request takes.0 page ∷ source_reply takes.0 page text ∷ []) untold
      takes.1,
)

-- a page with blocks, whose text has a byte
carried_page : (page : PageRef) (is_text : PageRef → List ℕ → Type 0) (byte : ℕ) (bytes : List ℕ) (a b : Copying)
    → is_text page (byte ∷ bytes)
    → TakesPage page (byte ∷ bytes) a.source b.source → SendsPage page (byte ∷ bytes) a.target b.target → CopiesPage page is_text a b
carried_page page is_text byte bytes a b is takes sends = record {
  text = byte ∷ bytes;
  is = is;
  tells = record {
    source_frames = source_request takes.0 page ∷ source_reply takes.0 page (byte ∷ bytes) ∷ [];
    target_frames = target_request sends.0 page (byte ∷ bytes) ∷ target_reply sends.0 page (byte ∷ bytes) ∷ [];
    of_source = (takes.0, [], refl, refl);
    of_target = (sends.0, [], refl, refl);
    source = takes.1;
    target = sends.1;
  };
}

pub copies_page : (page : PageRef) (is_text : PageRef → List ℕ → Type 0) (text before after : List ℕ) (a b c : Copying)
    → IsTextOf page text → is_text page text
    → length before ≡ 26 → after ≡ before ++ text → AreQuiet a b → TakesPage page (text_in after) b.source c.source
    → SendsPage page (text_in after) b.target c.target
    → CopiesPage page is_text a c
copies_page page is_text text before after a b c of_page is place appended quiet takes sends =
    let behind : text_in after ≡ text = ap text_in appended
    ∙ (subst (λ n. drop n (before ++ text) ≡ text) place (drop-append_seam before text)) in
    let spelled : text_in after ≡ page_text page.layer of_page.table = behind ∙ of_page.spelled in
    let is' = subst (is_text page) of_page.spelled is in
    let takes' = subst (λ t. TakesPage page t b.source c.source) spelled takes in
    let sends' = subst (λ t. SendsPage page t b.target c.target) spelled sends in
    carried_page page is_text (length page.layer) (page.layer ++ (map_of of_page.table ++ blocks_of of_page.table)) a c is'
    (takes_later page (page_text page.layer of_page.table) a.source b.source c.source quiet.source.told takes')
    (sends_later page (page_text page.layer of_page.table) a.target b.target c.target quiet.target.told sends')

-- ---- page after page

-- no step yet
pub keeps_here : {S H F : Type 0} {can : S → Type 0} {at : S → H} {aborted : S → ℕ → Type 0}
    {of_page : S → PageRef → List ℕ → Type 0} {lasts : S → F → Type 0} {of : S → Copying} {s : S} → can s
    → KeepsCopying can at aborted of_page lasts of s s
keeps_here ready = record {
  ready = ready;
  home = refl;
  ended = λ place is. is;
  texts = λ page text is. is;
  stays = λ fact is. is;
  fewer = omega arith;
}

-- a step behind others
pub keeps_then : {S H F : Type 0} {can : S → Type 0} {at : S → H} {aborted : S → ℕ → Type 0}
    {of_page : S → PageRef → List ℕ → Type 0} {lasts : S → F → Type 0} {of : S → Copying} {s s2 s3 : S}
    → KeepsCopying can at aborted of_page lasts of s s2 → KeepsCopying can at aborted of_page lasts of s2 s3
    → KeepsCopying can at aborted of_page lasts of s s3
keeps_then p q = record {
  ready = q.ready;
  home = q.home ∙ p.home;
  ended = λ place is. q.ended place (p.ended place is);
  texts = λ page text is. q.texts page text (p.texts page text is);
  stays = λ fact is. q.stays fact (p.stays fact is);
  fewer = omega (arith, p.fewer, q.fewer);
}

of_more : (f : ℕ → PageRef → List ℕ → List (List ℕ)) (ps qs : List CopiedPage) (xs ys : List (List ℕ)) → AreOf f ps xs
    → AreOf f qs ys → AreOf f (ps ++ qs) (xs ++ ys)
of_more f [] qs xs ys p q = subst (λ l. AreOf f qs (l ++ ys)) (sym p) q
of_more f (c ∷ ps) qs xs ys p q =
    (p.0, p.1 ++ ys, ap (λ l. l ++ ys) p.2 ∙ append_assoc (f p.0 c.page c.text) p.1 ys, of_more f ps qs p.1 ys p.3 q)

tell_more : (ps qs : List CopiedPage) (a b c : Copying) → TellPages ps a b → TellPages qs b c → TellPages (ps ++ qs) a c
tell_more ps qs a b c p q = record {
  source_frames = p.source_frames ++ q.source_frames;
  target_frames = p.target_frames ++ q.target_frames;
  of_source = of_more to_source ps qs p.source_frames q.source_frames p.of_source q.of_source;
  of_target = of_more to_target ps qs p.target_frames q.target_frames p.of_target q.of_target;
  source = TellsMore-trans a.source.told b.source.told c.source.told p.source_frames q.source_frames p.source q.source;
  target = TellsMore-trans a.target.told b.target.told c.target.told p.target_frames q.target_frames p.target q.target;
}

tell_none : (a b : Copying) → AreQuiet a b → TellPages [] a b
tell_none a b quiet = record {
  source_frames = [];
  target_frames = [];
  of_source = refl;
  of_target = refl;
  source = quiet.source.told;
  target = quiet.target.told;
}

have_more : (t t2 : PageRef → List ℕ → Type 0) (ps qs : List CopiedPage)
    → ((page : PageRef) (text : List ℕ) → t page text → t2 page text) → HaveTexts t ps → HaveTexts t2 qs
    → HaveTexts t2 (ps ++ qs)
have_more t t2 ps qs on p q =
    All-append (λ (c : CopiedPage). t2 c.page c.text) ps qs
    (All-weaker (λ (c : CopiedPage). t c.page c.text) (λ (c : CopiedPage). t2 c.page c.text) (λ c is. on c.page c.text is) ps p) q

have_none : (t : PageRef → List ℕ → Type 0) → HaveTexts t []
have_none t = All-nil (λ (c : CopiedPage). t c.page c.text)

pub copies_none : (t : PageRef → List ℕ → Type 0) (a : Copying) → CopiesPages t a a
copies_none t a = record {
  pages = [];
  texts = have_none t;
  count = omega arith;
  tells = record {
    source_frames = [];
    target_frames = [];
    of_source = refl;
    of_target = refl;
    source = TellsMore-nil a.source.told;
    target = TellsMore-nil a.target.told;
  };
}

pub copies_still : (t t2 : PageRef → List ℕ → Type 0) (a b c : Copying) → CopiesPages t a b → AreQuiet b c → c.left ≡ b.left
    → ((page : PageRef) (text : List ℕ) → t page text → t2 page text) → CopiesPages t2 a c
copies_still t t2 a b c p quiet left on = record {
  pages = p.pages ++ [];
  texts = have_more t t2 p.pages [] on p.texts (have_none t2);
  count = omega (arith, p.count, left, ap length (append-nil p.pages));
  tells = tell_more p.pages [] a b c p.tells (tell_none b c quiet);
}

pub copies_more : (t t2 : PageRef → List ℕ → Type 0) (page : PageRef) (a b c : Copying) → CopiesPages t a b
    → CopiesPage page t2 b c → Lists b c
    → ((page : PageRef) (text : List ℕ) → t page text → t2 page text) → CopiesPages t2 a c
copies_more t t2 page a b c p one lists on =
    let last : List CopiedPage = record { page = page; text = one.text } ∷ [] in
    record {
      pages = p.pages ++ last;
      texts = have_more t t2 p.pages last on p.texts
          (All-cons (λ (c : CopiedPage). t2 c.page c.text) (record { page = page; text = one.text }) [] one.is
          (have_none t2));
      count = omega (arith, p.count, lists.left, length-append p.pages last);
      tells = tell_more p.pages last a b c p.tells one.tells;
    }
