use Rattle.frame_wire.specs.Spelling.{header_length}
use Rattle.std.proofs.Common.{ap, sym, ◌∙◌, ◌≡◌, length}
use Rattle.std.proofs.lemmas.List.{length-take-le}
use Rattle.client_worker.proofs.frames.put_header.Goals as goal

pub copy_from_slice-requires : goal.copy_from_slice-requires
copy_from_slice-requires c =
    let long : length c.encode_header.result ≡ header_length = ap length c.encode_header.ensures in
    length-take-le header_length c.args.bytes.now c.requires ∙ sym long
