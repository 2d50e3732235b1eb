-- Refusals that are handed on.
use Rattle.std.proofs.Common.{◌≡◌, ℕ, List, length, Some, Result, Ok, Err, inl, inr, sym, subst}
use Rattle.serde_json.specs.Data.{Data}
use Rattle.serde_json.specs.Find.{as_str}
use Rattle.volume_model.specs.Commands.{IsCommand, IsNoCommand, NamesReplica}
use Rattle.volume_model.specs.declared.command.Command.{Command}
use Rattle.volume_model.proofs.TextLemmas.{same_text}
use Rattle.script_head.specs.declared.error.HeadError.{HeadError}
use Rattle.script_head.specs.declared.error.HeadError.TheVariants.{Json, BadMember, NoMemory}
use Rattle.script_head.specs.declared.member.Member.{Member}
use Rattle.script_head.specs.declared.member.Member.TheVariants.{Volume, Size, Open, Save, Now, Streams, Lines}
use Rattle.script_head.specs.Refusals.{Reads, AnswersObject}
use Rattle.script_head.specs.Members.{IsCommandItem, IsGood, HasReplicas, HasStreams, HasLines}
use Rattle.script_head.specs.declared.head.StreamHead.{StreamHead}
use Rattle.script_head.specs.declared.line_plan.LinePlan.{LinePlan}
use Rattle.script_head.proofs.OneValue.{same_value, same_streams}

-- a refusal of what the member would have to be
pub Reads-err : {T U : Type 0} (m : Member) (Has : T → Type 0) (Is : U → Type 0) (e : HeadError) → ((u : U) → Is u → (t : T) × Has t)
    → Reads m Has (Err e) → Reads m Is (Err e)
Reads-err m Has Is Json would refused = refused
Reads-err m Has Is (BadMember n) would (same, none) = (same, λ u is. let t = would u is in none t.0 t.1)
Reads-err m Has Is NoMemory would refused = tt

-- what it is once it is the other
pub Reads-along : {T : Type 0} (m : Member) (Has Is : T → Type 0) (r : Result T HeadError) → ((t : T) → Has t → Is t)
    → ((t : T) → Is t → Has t)
    → Reads m Has r → Reads m Is r
Reads-along m Has Is (Ok t) to back has = to t has
Reads-along m Has Is (Err Json) to back refused = refused
Reads-along m Has Is (Err (BadMember n)) to back (same, none) = (same, λ t is. none t (back t is))
Reads-along m Has Is (Err NoMemory) to back free = free

-- ---- texts that are no command of such a script

pub no_text : (replicas : ℕ) (d : Data) (text : List ℕ) → as_str d ≡ Some text → IsNoCommand text → (b : Command)
    → IsCommandItem replicas d b → ⊥
no_text replicas d text there none b (other, here, is, names) = none b (subst (λ t. IsCommand t b) (same_value _ here there) is)

pub no_other : (replicas : ℕ) (d : Data) (text : List ℕ) (c : Command) → as_str d ≡ Some text → IsCommand text c
    → (NamesReplica replicas c → ⊥)
    → (b : Command) → IsCommandItem replicas d b → ⊥
no_other replicas d text c there is none b (other, here, too, names) =
    let same = same_text text b c (subst (λ t. IsCommand t b) (same_value _ here there) too) is in
    none (subst (NamesReplica replicas) same names)

-- ---- refusals of members, where those before are good

-- the members before `streams` are good
pub record GoodBefore (d : Data) (replicas : ℕ) : Type 0 where
  pub volume : IsGood d Volume
  pub size : IsGood d Size
  pub replica_count : HasReplicas d replicas
  pub opens : IsGood d Open
  pub saves : IsGood d Save
  pub now : IsGood d Now

no_streams : (d : Data) (replicas : ℕ) → HasReplicas d replicas
    → ((streams : List StreamHead) → HasStreams d replicas streams → ⊥) → IsGood d Streams → ⊥
no_streams d replicas many none (count, streams, there, has) =
    none streams (subst (λ n. HasStreams d n streams) (same_value _ there.0 many.0) has)

no_lines : (d : Data) (replicas : ℕ) (streams : List StreamHead) → HasReplicas d replicas → HasStreams d replicas streams
    → ((plans : List LinePlan) → HasLines d (length streams) replicas plans → ⊥) → IsGood d Lines → ⊥
no_lines d replicas streams many has none (count, heads, plans, there, here, are) =
    let same : count ≡ replicas = same_value _ there.0 many.0 in
    let alike = same_streams replicas _ heads streams (subst (λ n. HasStreams d n heads) same here).0 has.0 in
    none plans (subst (λ (ss : List StreamHead). HasLines d (length ss) replicas plans) alike
    (subst (λ n. HasLines d (length heads) n plans) same are))

pub refused_at_streams : (d : Data) (replicas : ℕ) (e : HeadError) → GoodBefore d replicas
    → Reads Streams (HasStreams d replicas) (Err e) → AnswersObject d (Err e)
refused_at_streams d replicas Json good refused = refused
refused_at_streams d replicas (BadMember n) good (same, none) =
    inr (
      good.volume,
      inr (
        good.size,
        inr (
          (replicas, good.replica_count),
          inr (
            good.opens,
            inr (
              good.saves,
              inr (
                good.now,
                inl (sym same, no_streams d replicas good.replica_count none),
              ),
            ),
          ),
        ),
      ),
    )
refused_at_streams d replicas NoMemory good refused = tt

pub refused_at_lines : (d : Data) (replicas : ℕ) (streams : List StreamHead) (e : HeadError) → GoodBefore d replicas
    → HasStreams d replicas streams
    → Reads Lines (HasLines d (length streams) replicas) (Err e) → AnswersObject d (Err e)
refused_at_lines d replicas streams Json good has refused = refused
refused_at_lines d replicas streams (BadMember n) good has (same, none) =
    inr (
      good.volume,
      inr (
        good.size,
        inr (
          (replicas, good.replica_count),
          inr (
            good.opens,
            inr (
              good.saves,
              inr (
                good.now,
                inr ((replicas, streams, good.replica_count, has), inl (sym same, no_lines d replicas streams good.replica_count has none)),
              ),
            ),
          ),
        ),
      ),
    )
refused_at_lines d replicas streams NoMemory good has refused = tt
