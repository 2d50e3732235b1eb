use Rattle.std.proofs.Common.{◌++◌, append-nil, ap, codes, replicate}
use Rattle.std.specs.Fmt.{digits}
use Rattle.digest.specs.Digest.{digest_text}
use Rattle.run_report.specs.Lines.{head_line}
use Rattle.run_report.proofs.rows.a_served_read_reads.Goals as goal

-- no line stands behind that of the head
pub returns : goal.returns
unfolding digits
returns c =
    ap (λ l. codes "0 0 0 0 read 0 4096 ok 00*4096\nsession 0 ended 1 1\nmode r0 RW\nchain r0 head\n" ++ l)
    (append-nil (head_line 0 (digest_text (replicate 4096 0))))
