use Rattle.std.proofs.Common.{◌≡◌, ◌<◌, ◌+◌, ◌++◌, ℕ, List, [], Option, length, get_or, drop, ap, subst, ◌∙◌, arith, append_assoc}
use Rattle.std.proofs.lemmas.List.{get_or_default}
use Rattle.run_report.specs.Sessions.{session_line, session_lines}
use Rattle.run_report.specs.declared.session_line.EndedSession.{EndedSession}
use Rattle.run_report.proofs.ReportLemmas.{next_session}
use Rattle.outer_traits.specs.Passing.{Passes, WritesPrefix}
use Rattle.outer_traits.proofs.Passing.{Passes-trans, WritesPrefix-after, WritesPrefix-more}
use Rattle.report_writer.proofs.report.pass_sessions.Goals as goal

-- what is printed so far, and then the lines of the sessions left, is the whole text
abbrev IsSoFar : (s t : Option (List ℕ)) (had now : List ℕ) (sessions : List EndedSession) (k : ℕ) (printed : List ℕ) → Type 0
IsSoFar s t had now sessions k printed =
    Passes s t had now printed × (printed ++ session_lines k (drop k sessions) ≡ session_lines 0 sessions)

module _ (sessions : List EndedSession) (k : ℕ) (inside : k < length sessions) (e : EndedSession) (at : get_or sessions k e ≡ e)
    (s t u : Option (List ℕ)) (had now next printed : List ℕ) (so_far : IsSoFar s t had now sessions k printed) where
  -- a session more
  one_more : Passes t u now next (session_line k e) → IsSoFar s u had next sessions (k + 1) (printed ++ session_line k e)
  one_more passed = (
    Passes-trans _ _ _ _ _ _ printed (session_line k e) so_far.0 passed,
    next_session printed (session_lines 0 sessions) k sessions e inside at so_far.1,
  )

  -- some of its line
  some_more : WritesPrefix t u (now ++ session_line k e) → WritesPrefix s u (had ++ session_lines 0 sessions)
  some_more some =
      let rest = session_lines (k + 1) (drop (k + 1) sessions) in
      let all = next_session printed (session_lines 0 sessions) k sessions e inside at so_far.1 in
      let prefix = WritesPrefix-after _ _ _ had _ printed (session_line k e) so_far.0 some in
      subst (WritesPrefix _ _) (append_assoc had (printed ++ session_line k e) rest ∙ ap (λ l. had ++ l) all)
      (WritesPrefix-more _ _ _ rest prefix)

pub loop-session-preserved : goal.loop-session-preserved
loop-session-preserved g c =
    let i = c.loop-session.invariant in
    let sessions = c.args.sessions.now in
    let session = c.loop-session.session in
    let inside : session < length sessions = omega arith in
    let more = one_more sessions session inside _ (get_or_default sessions session _ _ inside) _ _ _ _ _ _ i.0 (i.1, i.2)
    c.in_ok-pass_session.ensures.passed in
    (_, more.0, more.1, c.in_ok-pass_session.ensures.cause.cause ∙ i.3)

pub returns-in_err-pass_session-clause-prefix : goal.returns-in_err-pass_session-clause-prefix
returns-in_err-pass_session-clause-prefix g c =
    let i = c.loop-session.invariant in
    let sessions = c.args.sessions.now in
    let session = c.loop-session.session in
    let inside : session < length sessions = omega arith in
    some_more sessions session inside _ (get_or_default sessions session _ _ inside) _ _ _ _ _ [] i.0 (i.1, i.2)
    c.in_err-pass_session.ensures.prefix
