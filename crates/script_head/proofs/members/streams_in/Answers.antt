use Rattle.std.proofs.Common.{◌≡◌, ◌≤◌, codes, Some, Err, option_and_then, arith, refl, ap, subst, ◌∙◌, rules}
use Rattle.std.specs.Prelude.{count_by}
use Rattle.std.proofs.lemmas.Bool.Decides.{nat_tests}
use Rattle.serde_json.specs.Find.{get, as_array}
use Rattle.serde_json.specs.View.{view, items_view}
use Rattle.script_head.specs.declared.member.Member.TheVariants.{Streams}
use Rattle.script_head.specs.Members.{IsStreamItem, HasStreams, backs_up}
use Rattle.script_head.specs.Refusals.{Reads}
use Rattle.script_head.proofs.OneValue.{same_streams}
use Rattle.script_head.specs.Values.{AreItems}
use Rattle.script_head.proofs.Lists.{items_there, length-AreItems}
use Rattle.script_head.proofs.Readers.{Reads-err}
use Rattle.script_head.proofs.members.streams_in.Goals as goal
use Rattle.script_head.proofs.members.streams_in.Goals.{then-is_empty-via-then-is_empty}
use Rattle.script_head.proofs.members.streams_in.Goals.{then-is_empty-via-else-is_empty+then-len-gt-MOST_STREAMS}

pub returns-then-is_empty : goal.returns-then-is_empty
returns-then-is_empty c =
    let get_here = get (codes "streams") (view c.args.line.now) in
    let vs = c.in_ok-items.items.now.items in
    let there : option_and_then as_array get_here ≡ Some (items_view vs) = search rules in (
      refl,
      λ streams has.
          let long = length-AreItems (IsStreamItem c.args.replicas) vs streams
          (items_there (IsStreamItem c.args.replicas) get_here vs streams there has.0) in
          elim c.then-is_empty.branch [
            | then-is_empty-via-then-is_empty w ↦ grind (arith, nat_tests, long)
            | then-is_empty-via-else-is_empty+then-len-gt-MOST_STREAMS w ↦ grind (arith, nat_tests, long)
          ],
    )

pub returns-in_err-streams : goal.returns-in_err-streams
returns-in_err-streams c =
    let get_here = get (codes "streams") (view c.args.line.now) in
    let vs = c.in_ok-items.items.now.items in
    let there : option_and_then as_array get_here ≡ Some (items_view vs) = search rules in
    let same : Err c.in_err-streams.field-0.0 ≡ c.from_residual-in_err-streams.result = search rules in
    subst (Reads Streams (HasStreams (view c.args.line.now) c.args.replicas)) same
    (Reads-err Streams (AreItems (IsStreamItem c.args.replicas) (items_view vs)) (HasStreams (view c.args.line.now) c.args.replicas)
    c.in_err-streams.field-0.0
    (λ streams has. (streams, items_there (IsStreamItem c.args.replicas) get_here vs streams there has.0))
    (subst (λ xs. Reads Streams (AreItems (IsStreamItem c.args.replicas) (items_view xs)) (Err c.in_err-streams.field-0.0))
    c.deref.ensures.value c.in_err-streams.ensures))

pub returns-then-backup_count-gt1 : goal.returns-then-backup_count-gt1
returns-then-backup_count-gt1 c =
    let get_here = get (codes "streams") (view c.args.line.now) in
    let vs = c.in_ok-items.items.now.items in
    let there : option_and_then as_array get_here ≡ Some (items_view vs) = search rules in
    let are : AreItems (IsStreamItem c.args.replicas) (items_view vs) c.in_ok-streams.streams =
    rw (← c.deref.ensures.value) c.in_ok-streams.ensures in
    let count : c.backup_count.result ≡ count_by backs_up c.in_ok-streams.streams =
    c.backup_count.ensures ∙ ap (count_by backs_up) c.as_slice.ensures in (
      refl,
      λ streams has.
          let same = same_streams c.args.replicas get_here streams c.in_ok-streams.streams has.0 (items_view vs, there, are) in
          let few = subst (λ ss. count_by backs_up ss ≤ 1) same has.3 in
          omega (arith, count, few, c.if-backup_count-gt1.true),
    )

pub returns : goal.returns
returns c =
    let get_here = get (codes "streams") (view c.args.line.now) in
    let vs = c.in_ok-items.items.now.items in
    let there : option_and_then as_array get_here ≡ Some (items_view vs) = search rules in
    let are : AreItems (IsStreamItem c.args.replicas) (items_view vs) c.in_ok-streams.streams =
    rw (← c.deref.ensures.value) c.in_ok-streams.ensures in
    let long = length-AreItems (IsStreamItem c.args.replicas) vs c.in_ok-streams.streams are in
    let count : c.backup_count.result ≡ count_by backs_up c.in_ok-streams.streams =
    c.backup_count.ensures ∙ ap (count_by backs_up) c.as_slice.ensures in (
      (items_view vs, there, are),
      grind (arith, nat_tests, long),
      grind (arith, nat_tests, long),
      subst (λ n. n ≤ 1) count c.if-backup_count-gt1.false,
    )
