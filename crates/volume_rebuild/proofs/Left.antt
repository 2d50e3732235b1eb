-- What the source and the target have of a page that is to be copied.
use Rattle.std.proofs.Common.{◌≡◌, ◌≢◌, ℕ, ◌*◌, ◌<◌, length, refl, sym, ap, subst, ◌∙◌, arith}
use Rattle.std.specs.Prelude.{Option, None, Some, Contains}
use Rattle.vol_units.specs.declared.page_ref.PageRef.{PageRef}
use Rattle.vol_units.specs.declared.size.TheConstants.{PAGE_BYTES}
use Rattle.volume_model.specs.declared.mode.Mode.TheVariants.{Err}
use Rattle.volume_model.specs.Modes.{mode_of}
use Rattle.replica_node.specs.Node.{Node, layer_names}
use Rattle.step_answers.specs.declared.parts.Part.{Part}
use Rattle.step_answers.specs.declared.parts.Part.TheVariants.{Apart, Owed, Taken, Acked}
use Rattle.step_answers.specs.declared.whole_op.WholeOp.{WholeOp}
use Rattle.step_answers.specs.declared.whole_op.WholeOp.TheVariants as whole
use Rattle.open_calls.specs.Calls.{node_at}
use Rattle.step_answers.specs.Parts.{part_at}
use Rattle.open_calls.proofs.PartLemmas.{up_in}
use Rattle.open_calls.specs.declared.whole.Whole.{Whole}
use Rattle.open_calls.specs.Due.{form_part, forms}
use Rattle.open_calls.proofs.Forms.{length-forms, formed_in}
use Rattle.open_rebuild.specs.declared.rebuilding.Rebuilding.{Rebuilding}
use Rattle.open_rebuild.specs.Claim.{HasBits, IsBesideThese, IsBesideStarted, IsRebuilding, IsUnderWay}
use Rattle.open_rebuild.specs.Pages.{IsFrozenPage}
use Rattle.open_rebuild.proofs.PageSteps.{source_has, target_has}
use Rattle.open_rebuild.proofs.RangeSteps.{up_rw, up_wo}
use Rattle.volume_core.specs.State.{State, modes_in}
use Rattle.volume_core.specs.Sound.{IsSound}

-- a replica in due form is as long
long_form : (op : WholeOp) (b : Rebuilding) (a : Part) (node : Node) → IsBesideThese b.frozen op
    → length (form_part op a node).disk ≡ length node.disk
long_form (whole.Snapshot name) b Apart node beside = refl
long_form (whole.Snapshot name) b Owed node beside = refl
long_form (whole.Snapshot name) b Taken node beside = refl
long_form (whole.Snapshot name) b Acked node beside = refl
long_form (whole.Remove name) b a node beside = absurd beside
long_form (whole.Revert name) b a node beside = absurd beside
long_form (whole.Purge f) b a node beside = absurd beside
long_form (whole.Barrier r) b a node beside = absurd beside

module _ (s : State) (b : Rebuilding) (ok : IsSound s) (is : s.rebuild ≡ Some b) where
  begun : IsRebuilding s.size (modes_in s) s.tickets s.calls s.whole s.nodes (Some b)
  begun = subst (λ x. IsRebuilding s.size (modes_in s) s.tickets s.calls s.whole s.nodes x) is ok.rebuild

  many : length (modes_in s) ≡ length s.nodes
  many = omega (arith, ok.on.clients.agree.as_many, length-forms s.whole s.nodes)

  way : IsUnderWay s.size s.tickets s.calls (forms s.whole s.nodes) b
  way = let x = begun.claim in x.under_way

  pub has_bits : HasBits b
  has_bits = way.bits

  up_source : mode_of (modes_in s) b.source ≢ Err
  up_source = up_rw (mode_of (modes_in s) b.source) begun.roles.source

  up_target : mode_of (modes_in s) b.target ≢ Err
  up_target = up_wo (mode_of (modes_in s) b.target) begun.roles.target

  there : (r : ℕ) → mode_of (modes_in s) r ≢ Err → r < length s.nodes
  there r up = omega (arith, up_in (modes_in s) r up, many)

  pub source_there : b.source < length s.nodes
  source_there = there b.source up_source

  pub target_there : b.target < length s.nodes
  target_there = there b.target up_target

  -- of a page that may be copied
  module _ (page : PageRef) (frozen : IsFrozenPage b page) where
    beside : IsBesideStarted b s.whole
    beside = let x = begun.claim in x.beside frozen.may

    long : (r : ℕ) → mode_of (modes_in s) r ≢ Err → length (node_at s.nodes r).disk ≡ s.size
    long r up = sym (same s.whole beside) ∙ ok.on.clients.agree.sizes r up
      where
        same : (w : Option Whole) → IsBesideStarted b w → length (node_at (forms w s.nodes) r).disk ≡ length (node_at s.nodes r).disk
        same None still = refl
        same (Some w) still = ap (λ (n : Node). length n.disk) (formed_in w.op w.parts s.nodes r (there r up))
            ∙ long_form w.op b (part_at w.parts r) (node_at s.nodes r) still

    inside : (r : ℕ) → mode_of (modes_in s) r ≢ Err → page.page * PAGE_BYTES < length (node_at s.nodes r).disk
    inside r up = omega (arith, frozen.page, way.pages, long r up)

    pub source_kept : Contains (layer_names (node_at s.nodes b.source).layers) page.layer
    source_kept = source_has s.size (modes_in s) s.tickets s.calls s.whole s.nodes b page.layer many frozen.may frozen.layer begun

    pub source_inside : page.page * PAGE_BYTES < length (node_at s.nodes b.source).disk
    source_inside = inside b.source up_source

    pub target_kept : Contains (layer_names (node_at s.nodes b.target).layers) page.layer
    target_kept = target_has s.size (modes_in s) s.tickets s.calls s.whole s.nodes b page.layer many frozen.may frozen.layer begun

    pub target_inside : page.page * PAGE_BYTES < length (node_at s.nodes b.target).disk
    target_inside = inside b.target up_target
