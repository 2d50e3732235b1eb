use Rattle.std.proofs.Common.{◌≡◌, ◌*◌, replicate, [], subst, sym, ap, ◌∙◌, arith}
use Rattle.vol_units.specs.Bytes.{zeros}
use Rattle.sparse_image.specs.Image.{IsEmpty}
use Rattle.sparse_image.proofs.DiskLemmas.{disk_of-empty}
use Rattle.sparse_image.proofs.ImageLemmas.{IsEmpty-replicate}
use Rattle.sparse_image.proofs.image.Image.with_pages.Goals as goal

empty : (c : goal.After-loop-page) → IsEmpty c.loop-page.pages.items c.args.page_count
empty c =
    let all : c.loop-page._page ≡ c.args.page_count = omega arith in
    subst (λ i. IsEmpty i c.args.page_count) (sym (c.loop-page.invariant ∙ ap (λ n. replicate n []) all))
    (IsEmpty-replicate c.args.page_count)

pub returns-clause-empty : goal.returns-clause-empty
returns-clause-empty c = empty c

pub returns-clause-disk : goal.returns-clause-disk
returns-clause-disk c =
    let long : c.args.page_count * 2097152 ≡ c.args.page_count * 512 * 4096 = omega arith in
    disk_of-empty _ c.args.page_count (empty c) ∙ ap zeros long
