use Rattle.std.proofs.Common.{◌≡◌, ◌-◌, ◌≤◌, ◌∙◌, length, sum_by}
use Rattle.script_head.specs.Head.{byte_count, command_count}
use Rattle.script_head.specs.Limits.{most_calls}
use Rattle.script_text.proofs.StreamsLemmas.{answers_body}
use Rattle.script_text.proofs.script.read_body.Goals as goal

pub returns : goal.returns
returns c =
    let heads = c.args.heads in
    let whole : sum_by byte_count heads ≡ length c.args.body = (rw c.as_slice.ensures at c.in_default.ensures.none) ∙ c.len.ensures.value in
    let few : sum_by command_count heads ≤ most_calls = rw c.as_slice-2.ensures at c.in-Some-room_beside.ensures.0 in
    let room : c.in-Some-room_beside.room ≡ most_calls - sum_by command_count heads =
    rw c.as_slice-2.ensures at c.in-Some-room_beside.ensures.1 in
    answers_body c.args.place heads c.args.body c.in-Some-room_beside.room c.read_streams.result whole few room c.read_streams.ensures
