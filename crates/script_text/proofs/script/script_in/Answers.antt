use Rattle.std.proofs.Common.{◌≡◌, ◌≤◌, ◌+◌, ◌∙◌, length, take, drop, Err, refl, sym, ap, subst, arith, length-take-le}
use Rattle.std.proofs.lemmas.List.{take_rest}
use Rattle.std.proofs.lemmas.Result.{err_from_is_err_and}
use Rattle.script_head.specs.Head.{Says}
use Rattle.script_text.specs.Line.{IsCut, HasNoLine}
use Rattle.script_text.specs.Refusals.{AnswersBody}
use Rattle.script_text.proofs.OneAnswer.{refused_behind}
use Rattle.script_text.proofs.script.script_in.Goals as goal

pub returns-in_default : goal.returns-in_default
returns-in_default c = (omega arith, subst HasNoLine c.as_slice.ensures c.in_default.ensures.none, refl)

pub returns-in_err-streams : goal.returns-in_err-streams
returns-in_err-streams c =
    let input = c.args.input.now in
    let n = c.in-Some.length in
    let line = take n input in
    let body = drop (n + 1) input in
    let head = c.in_ok-heads.field-0 in
    let e = c.in_err-streams.field-0.0 in
    let cut : IsCut input line body = subst (λ l. IsCut l (take n l) (drop (n + 1) l)) c.as_slice.ensures c.in-Some.ensures.cut in
    let says : Says line head = subst (λ l. Says (take n l) head) c.as_slice-2.ensures c.in_ok-heads.ensures.found in
    let rest : c.in_ok-body.body ≡ body = c.in_ok-body.ensures.ok ∙ take_rest input (n + 1) in
    let long : n ≤ length input = omega (arith, c.in-Some.ensures.within, ap length c.as_slice.ensures) in
    let of_line : AnswersBody (length line + 1) head.streams c.in_ok-body.body (Err e) =
    subst (λ k. AnswersBody (k + 1) head.streams c.in_ok-body.body (Err e)) (sym (length-take-le n input long)) c.in_err-streams.ensures in
    let p = err_from_is_err_and c.from_residual-in_err-streams.result c.from_residual-in_err-streams.ensures.1 in
    rw (p.1, p.2) (refused_behind input line body head e cut says
    (subst (λ l. AnswersBody (length line + 1) head.streams l (Err e)) rest of_line))
