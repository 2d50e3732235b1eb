use Rattle.std.proofs.Common.{ap, sym, ◌∙◌, ◌≡◌, length}
use Rattle.std.proofs.lemmas.List.{length-take-le}
use Rattle.rebuild_worker.proofs.frames.put_header.Goals as goal

pub copy_from_slice-requires : goal.copy_from_slice-requires
copy_from_slice-requires c =
    let long : length c.encode_header.result ≡ 26 = ap length c.encode_header.ensures in
    length-take-le 26 c.args.bytes.now c.requires ∙ sym long
