-- One answer is true of a line, unless memory runs out.
use Rattle.std.proofs.Common.{◌≡◌, ◌≢◌, ◌∙◌, List, [], ◌∷◌, ℕ, Bool, length, Result, Ok, Err, inl, inr, refl, sym, ap, subst}
use Rattle.serde_json.specs.Data.{Data}
use Rattle.serde_json.specs.Read.{read}
use Rattle.script_head.specs.declared.error.HeadError.{HeadError}
use Rattle.script_head.specs.declared.error.HeadError.TheVariants.{Json, BadMember, NoMemory}
use Rattle.script_head.specs.declared.head.ScriptHead.{ScriptHead}
use Rattle.script_head.specs.declared.head.StreamHead.{StreamHead}
use Rattle.script_head.specs.declared.line_plan.LinePlan.{LinePlan}
use Rattle.script_head.specs.declared.member.Member.{Member}
use Rattle.script_head.specs.Members.{HasStreams, HasLines, IsGood, IsFirstBadOf, in_order}
use Rattle.script_head.specs.Head.{IsObject, IsScriptHead, IsFirstBad, Says, HasFirstBad, IsNoObject, AnswersLine}
use Rattle.script_head.specs.Answers.{IsOnlyAnswer}
use Rattle.script_head.proofs.OneValue.{same_value, same_streams, same_plans}

same_object : (line : List ℕ) (d e : Data) → IsObject line d → IsObject line e → d ≡ e
same_object line d e p q = same_value (read line) p.value q.value

abbrev head_of : List StreamHead → List LinePlan → List ℕ → List ℕ → ℕ → ℕ → Bool → Bool → ScriptHead
head_of streams lines now volume size replicas opens saves =
    record { streams = streams; lines = lines; now = now; volume = volume; size = size; replicas = replicas; opens = opens; saves = saves }

same_parts : {streams ss : List StreamHead} {lines ls : List LinePlan} {now n volume v : List ℕ} {size s replicas r : ℕ}
    → {opens o saves t : Bool} → streams ≡ ss → lines ≡ ls → now ≡ n → volume ≡ v → size ≡ s → replicas ≡ r → opens ≡ o → saves ≡ t
    → head_of streams lines now volume size replicas opens saves ≡ head_of ss ls n v s r o t
same_parts a b c d e f g h = cc

pub same_head : (d : Data) (a b : ScriptHead) → IsScriptHead d a → IsScriptHead d b → a ≡ b
same_head d a b p q =
    let replicas : a.replicas ≡ b.replicas = same_value _ p.replicas.0 q.replicas.0 in
    let streams = same_streams b.replicas _ a.streams b.streams (subst (λ n. HasStreams d n a.streams) replicas p.streams).0 q.streams.0 in
    let lines : HasLines d (length b.streams) b.replicas a.lines =
    subst (λ (ss : List StreamHead). HasLines d (length ss) b.replicas a.lines) streams
    (subst (λ n. HasLines d (length a.streams) n a.lines) replicas p.lines) in
    same_parts streams (same_plans (length b.streams) b.replicas _ a.lines b.lines lines q.lines)
    (same_value _ p.now.0 q.now.0) (same_value _ p.volume.0 q.volume.0)
    (same_value _ p.size.0 q.size.0) replicas
    (same_value _ p.opens q.opens) (same_value _ p.saves q.saves)

-- these members are all good
abbrev pub AreGood : Data → List Member → Type 0
AreGood d [] = Unit {0}
AreGood d (m ∷ ms) = IsGood d m × AreGood d ms

all_good : (d : Data) (head : ScriptHead) → IsScriptHead d head → AreGood d in_order
all_good d head is = (
  (head.volume, is.volume),
  (
    (head.size, is.size),
    (
      (head.replicas, is.replicas),
      (
        (head.opens, is.opens),
        (
          (head.saves, is.saves),
          (
            (head.now, is.now),
            (
              (head.replicas, head.streams, is.replicas, is.streams),
              ((head.replicas, head.streams, head.lines, is.replicas, is.streams, is.lines), tt),
            ),
          ),
        ),
      ),
    ),
  ),
)

none_bad : (ms : List Member) (d : Data) (m : Member) → AreGood d ms → IsFirstBadOf ms d m → ⊥
none_bad [] d m good bad = bad
none_bad (n ∷ ns) d m (good, more) (inl (same, bad)) = bad good
none_bad (n ∷ ns) d m (good, more) (inr (fine, bad)) = none_bad ns d m more bad

one_bad : (ms : List Member) (d : Data) (a b : Member) → IsFirstBadOf ms d a → IsFirstBadOf ms d b → a ≡ b
one_bad [] d a b p q = absurd p
one_bad (n ∷ ns) d a b (inl (is, bad)) (inl (same, worse)) = sym is ∙ same
one_bad (n ∷ ns) d a b (inl (is, bad)) (inr (good, later)) = absurd (bad good)
one_bad (n ∷ ns) d a b (inr (good, later)) (inl (same, worse)) = absurd (worse good)
one_bad (n ∷ ns) d a b (inr (good, later)) (inr (fine, more)) = one_bad ns d a b later more

-- another answer beside each of the three
beside_head : (line : List ℕ) (head : ScriptHead) (b : Result ScriptHead HeadError) → b ≢ Err NoMemory → Says line head
    → AnswersLine line b → Ok head ≡ b
beside_head line head (Ok other) told (d, object, is) (e, too, also) =
    ap Ok (same_head d head other is (subst (λ x. IsScriptHead x other) (sym (same_object line d e object too)) also))
beside_head line head (Err Json) told (d, object, is) none = absurd (none d object)
beside_head line head (Err (BadMember m)) told (d, object, is) (e, too, bad) =
    absurd (none_bad in_order d m (all_good d head is) (subst (λ x. IsFirstBad x m) (sym (same_object line d e object too)) bad))
beside_head line head (Err NoMemory) told says free = absurd (told refl)

beside_bad : (line : List ℕ) (m : Member) (b : Result ScriptHead HeadError) → b ≢ Err NoMemory → HasFirstBad line m
    → AnswersLine line b → Err (BadMember m) ≡ b
beside_bad line m (Ok head) told (d, object, bad) (e, too, is) =
    absurd (none_bad in_order e m (all_good e head is) (subst (λ x. IsFirstBad x m) (same_object line d e object too) bad))
beside_bad line m (Err Json) told (d, object, bad) none = absurd (none d object)
beside_bad line m (Err (BadMember n)) told (d, object, bad) (e, too, worse) =
    ap (λ (k : Member). Err (BadMember k))
    (one_bad in_order d m n bad (subst (λ x. IsFirstBad x n) (sym (same_object line d e object too)) worse))
beside_bad line m (Err NoMemory) told bad free = absurd (told refl)

beside_json : (line : List ℕ) (b : Result ScriptHead HeadError) → b ≢ Err NoMemory → IsNoObject line → AnswersLine line b → Err Json ≡ b
beside_json line (Ok head) told none (d, object, is) = absurd (none d object)
beside_json line (Err Json) told none also = refl
beside_json line (Err (BadMember m)) told none (d, object, bad) = absurd (none d object)
beside_json line (Err NoMemory) told none free = absurd (told refl)

pub one_answer : (line : List ℕ) (a : Result ScriptHead HeadError) → AnswersLine line a → IsOnlyAnswer NoMemory (AnswersLine line) a
one_answer line (Ok head) is = λ b told also. inl (beside_head line head b told is also)
one_answer line (Err Json) is = λ b told also. inl (beside_json line b told is also)
one_answer line (Err (BadMember m)) is = λ b told also. inl (beside_bad line m b told is also)
one_answer line (Err NoMemory) is = λ b told also. inr refl
