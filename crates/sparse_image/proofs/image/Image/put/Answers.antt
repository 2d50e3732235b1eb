use Rattle.std.proofs.Common.{◌*◌, ◌/◌, ◌%◌, ◌<◌, [], None, Some, length, set, get_or-set_same, subst, ap, ◌∙◌, arith}
use Rattle.std.proofs.lemmas.List.{get_or_read}
use Rattle.vol_units.specs.Bytes.{with_bytes_at}
use Rattle.sparse_image.specs.Disk.{disk_of}
use Rattle.sparse_image.specs.Image.{block_at, has_page, place_at, ChangesBlock}
use Rattle.sparse_image.proofs.DiskLemmas.{disk_of-put}
use Rattle.sparse_image.proofs.ImageLemmas.{has_page-inside, ChangesBlock-put}
use Rattle.sparse_image.proofs.image.Image.put.Goals as goal

pub index_mut-requires : goal.index_mut-requires
index_mut-requires c =
    let page = c.args.block / 512 in
    omega (arith, (has_page-inside c.self.inside.pages.items page (ap (λ i. has_page i page) c.self.view_is ∙ c.requires)).0)

pub put-requires : goal.put-requires
put-requires c =
    let page = c.args.block / 512 in
    let made = has_page-inside c.self.inside.pages.items page (ap (λ i. has_page i page) c.self.view_is ∙ c.requires) in
    let read = get_or_read c.self.inside.pages.items page _ made.0 c.index_mut.ensures.value [] in
    omega (arith, ap length read, made.1)

-- what the call does to the fields
changed : (c : goal.After-self-1) → ChangesBlock c.self.inside.pages.items
    (set c.self.inside.pages.items (c.args.block / 512) c.put.new.self) c.args.block (Some c.args.new.value)
changed c =
    let image = c.self.inside.pages.items in
    let page = c.args.block / 512 in
    let made = has_page-inside image page (ap (λ i. has_page i page) c.self.view_is ∙ c.requires) in
    let read = get_or_read image page _ made.0 c.index_mut.ensures.value [] in
    let place : c.args.block % 512 < length c.index_mut.result.now = omega (arith, ap length read, made.1) in
    ChangesBlock-put image c.args.block _ _ _ made.0 read c.put.ensures.new
    (get_or-set_same c.index_mut.result.now (c.args.block % 512) (Some c.args.new.value) None place)

pub returns-clause-changes : goal.returns-clause-changes
returns-clause-changes c =
    subst (λ i. ChangesBlock i (set c.self.inside.pages.items (c.args.block / 512) c.put.new.self) c.args.block (Some c.args.new.value))
    c.self.view_is
    (changed c)

pub returns-clause-old : goal.returns-clause-old
unfolding block_at
returns-clause-old c =
    let image = c.self.inside.pages.items in
    let page = c.args.block / 512 in
    let made = has_page-inside image page (ap (λ i. has_page i page) c.self.view_is ∙ c.requires) in
    let read = get_or_read image page _ made.0 c.index_mut.ensures.value [] in
    c.put.ensures.old ∙ ap (λ t. place_at t (c.args.block % 512)) read ∙ ap (λ i. block_at i c.args.block) c.self.view_is

pub returns-clause-disk : goal.returns-clause-disk
returns-clause-disk c =
    let page = c.args.block / 512 in
    let made = has_page-inside c.self.inside.pages.items page (ap (λ i. has_page i page) c.self.view_is ∙ c.requires) in
    disk_of-put _ _ c.args.block _ c.self.invariant (changed c) made.0 c.put.ensures.whole
    ∙ ap (λ i. with_bytes_at (disk_of i) (c.args.block * 4096) c.args.new.value) c.self.view_is
