use Rattle.std.proofs.Common.{◌≡◌, ℕ, ◌+◌, ◌*◌, ◌/◌, ◌%◌, ◌<◌, List, [], is_some, length, set, subst, sym, ap, ◌∙◌, arith}
use Rattle.std.proofs.lemmas.List.{get_or_read}
use Rattle.std.specs.Option.{option_map}
use Rattle.vol_units.specs.Bytes.{with_bytes_at}
use Rattle.sparse_image.specs.Disk.{disk_of}
use Rattle.sparse_image.specs.Image.{block_at, place_at, ChangesBlock}
use Rattle.sparse_image.proofs.DiskLemmas.{disk_of-overwrite}
use Rattle.sparse_image.proofs.ImageLemmas.{ChangesBlock-put, ChangesBlock-past, place_at-map_set}
use Rattle.sparse_image.proofs.image.Image.overwrite.Goals as goal

pub returns-then-page-len-clause-there : goal.returns-then-page-len-clause-there
returns-then-page-len-clause-there c =
    let past = ChangesBlock-past c.self.inside.pages.items c.args.block (λ b. b) (omega arith) in
    sym (ap is_some (ap (λ i. block_at i c.args.block) (sym c.self.view_is) ∙ past.0))

pub returns-then-page-len-clause-changes : goal.returns-then-page-len-clause-changes
returns-then-page-len-clause-changes c =
    let write = λ (b : List ℕ). with_bytes_at b c.args.start c.args.bytes.now in
    subst (λ i. ChangesBlock i i c.args.block (option_map write (block_at i c.args.block))) c.self.view_is
    (ChangesBlock-past c.self.inside.pages.items c.args.block write (omega arith)).1

-- what the call does to the fields
changed : (c : goal.After-self-1) → ChangesBlock c.self.inside.pages.items
    (set c.self.inside.pages.items (c.args.block / 512) c.overwrite.new.self) c.args.block
    (option_map (λ b. with_bytes_at b c.args.start c.args.bytes.now) (block_at c.self.inside.pages.items c.args.block))
unfolding block_at
changed c =
    let image = c.self.inside.pages.items in
    let block = c.args.block in
    let write = λ (b : List ℕ). with_bytes_at b c.args.start c.args.bytes.now in
    let inside : block / 512 < length image = omega arith in
    let read = get_or_read image (block / 512) _ inside c.index_mut.ensures.value [] in
    subst (λ t. ChangesBlock image (set image (block / 512) c.overwrite.new.self) block (option_map write (place_at t (block % 512)))) read
    (ChangesBlock-put image block _ _ _ inside read c.overwrite.ensures.new (place_at-map_set c.index_mut.result.now (block % 512) write))

there : (c : goal.After-self-1) → c.overwrite.result ≡ is_some (block_at c.self.inside.pages.items c.args.block)
unfolding block_at
there c =
    let page = c.args.block / 512 in
    let inside : page < length c.self.inside.pages.items = omega arith in
    let read = get_or_read c.self.inside.pages.items page _ inside c.index_mut.ensures.value [] in
    c.overwrite.ensures.there ∙ ap (λ t. is_some (place_at t (c.args.block % 512))) read

pub returns-clause-there : goal.returns-clause-there
returns-clause-there c = there c ∙ ap (λ i. is_some (block_at i c.args.block)) c.self.view_is

pub returns-clause-changes : goal.returns-clause-changes
returns-clause-changes c =
    subst (λ i. ChangesBlock i (set c.self.inside.pages.items (c.args.block / 512) c.overwrite.new.self) c.args.block
    (option_map (λ b. with_bytes_at b c.args.start c.args.bytes.now) (block_at i c.args.block))) c.self.view_is
    (changed c)

pub returns-clause-disk : goal.returns-clause-disk
returns-clause-disk c = λ done.
    disk_of-overwrite _ _ c.args.block c.args.start c.args.bytes.now c.self.invariant (changed c) (sym (there c) ∙ done)
    (omega arith) c.requires
    ∙ ap (λ i. with_bytes_at (disk_of i) (c.args.block * 4096 + c.args.start) c.args.bytes.now) c.self.view_is
