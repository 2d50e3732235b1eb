-- Each line says something, or is refused.
use Rattle.std.proofs.Common.{◌≡◌, ◌≢◌, ◌⊎◌, ◌∙◌, ℕ, ◌<◌, ◌^◌, Bool, false, List, [], ◌∷◌, ◌++◌, length, codes}
use Rattle.std.proofs.Common.{Option, Some, None, is_some, decimal, inl, inr, refl, sym, ap, eqb}
use Rattle.std.specs.Str.{is_utf8}
use Rattle.std.specs.Prelude.{count_by}
use Rattle.std.specs.List.{position}
use Rattle.std.proofs.lemmas.Bool.{cases_eq}
use Rattle.std.proofs.lemmas.Str.{IsUtf8-from_is_utf8, is_utf8-from_IsUtf8}
use Rattle.std.proofs.lemmas.List.{append_cancel_left}
use Rattle.serde_json.specs.Data.{Data}
use Rattle.serde_json.specs.Find.{get, as_object, as_bool, as_str}
use Rattle.serde_json.specs.Read.{read}
use Rattle.vol_units.specs.Name.{IsName, IsSnapName, IsPlainName, IsLayerName, sys_name}
use Rattle.vol_units.specs.Size.{IsVolumeSize}
use Rattle.vol_units.specs.Time.{IsTimeText}
use Rattle.volume_model.specs.Commands.{IsCommand, NamesReplica, ArePartsOf, names_text}
use Rattle.volume_model.specs.declared.command.Command.{Command}
use Rattle.volume_model.specs.declared.command.Command.TheVariants as command
use Rattle.volume_model.proofs.NameParts.{no_names, no_backup, parted_into, parted_not}
use Rattle.volume_model.proofs.TextLemmas.{same_text}
use Rattle.script_head.specs.declared.error.HeadError.{HeadError}
use Rattle.script_head.specs.declared.error.HeadError.TheVariants.{Json, BadMember, NoMemory}
use Rattle.script_head.specs.declared.head.ScriptHead.{ScriptHead}
use Rattle.script_head.specs.declared.head.StreamHead.{StreamHead}
use Rattle.script_head.specs.declared.head.StreamHead.TheVariants as stream
use Rattle.script_head.specs.declared.line_plan.LinePlan.{LinePlan}
use Rattle.script_head.specs.declared.member.Member.{Member}
use Rattle.script_head.specs.declared.member.Member.TheVariants as member_of
use Rattle.script_head.specs.Limits.{most_input, most_replicas, most_streams, most_calls, most_failures, largest_carry}
use Rattle.script_head.specs.LinePlans.{RisesAbove, AreApart, NoPairTwice}
use Rattle.script_head.specs.Values.{whole, member, member_or}
use Rattle.script_head.specs.Members.{IsCommandItem, IsStreamItem, backs_up, HasReplicas, HasFlag, HasStreams, IsCarryItem}
use Rattle.script_head.specs.Members.{HasFail, HasNumberBelow, IsLinePlan, ArePlans, IsGood, IsFirstBadOf, in_order}
use Rattle.script_head.specs.Head.{IsObject, IsScriptHead, Says, RefusesLine}
use Rattle.script_head.proofs.Known.{Known, known_along, known_both, known_either, known_not, known_less, known_most, known_true}
use Rattle.script_head.proofs.Known.{known_false, known_text, known_none, known_held, known_of_one, known_below, known_behind}
use Rattle.script_head.proofs.Known.{known_all, known_list, known_test, known_two, known_three, known_four}
use Rattle.script_head.proofs.OneValue.{same_value, same_list, same_streams, one_command, one_carry, one_plan}
use Rattle.script_head.proofs.OneAnswer.{AreGood}

-- ---- names and texts

known_name : (name : List ℕ) → Known (IsName name)
known_name name =
    known_along (λ is. record { some = is.0; most = is.1.0; bytes = is.1.1 }) (λ is. (is.some, (is.most, is.bytes)))
    (known_both (known_most _ _) (known_both (known_most _ _) (known_true _)))

known_snap_name : (name : List ℕ) → Known (IsSnapName name)
known_snap_name name =
    known_along (λ is. record { spelled = is.0; user = is.1 }) (λ is. (is.spelled, is.user)) (known_both (known_name name) (known_false _))

known_plain_name : (name : List ℕ) → Known (IsPlainName name)
known_plain_name name =
    known_along (λ is. record { spelled = is.0; first = is.1 }) (λ is. (is.spelled, is.first)) (known_both (known_name name) (known_true _))

known_layer_name : (name : List ℕ) → Known (IsLayerName name)
known_layer_name name = known_either (known_snap_name name) (known_below (10 ^ 10) (λ n. known_text name (sys_name n)))

known_size : (size : ℕ) → Known (IsVolumeSize size)
known_size size =
    known_along (λ is. record { whole = is.0; least = is.1.0; most = is.1.1 }) (λ is. (is.whole, (is.least, is.most)))
    (known_both (cases_eq _ 0) (known_both (known_most _ _) (known_most _ _)))

known_time : (text : List ℕ) → Known (IsTimeText text)
known_time text =
    known_along (λ is. record { most = is.0; bytes = is.1 }) (λ is. (is.most, is.bytes)) (known_both (known_most _ _) (known_true _))

-- ---- commands

-- a word and a name behind it
known_named : {IsGood : List ℕ → Type 0} → ((name : List ℕ) → Known (IsGood name)) → (word text : List ℕ)
    → Known ((name : List ℕ) × (text ≡ word ++ name) × IsGood name)
known_named known word text =
    known_of_one (λ a b is too. append_cancel_left word a b (sym is ∙ too)) (known_behind word text) known

-- a word and a digit behind it
known_digit : (word text : List ℕ) → Known ((r : ℕ) × (r < 10) × (text ≡ word ++ decimal r))
known_digit word text = known_below 10 (λ r. known_text text (word ++ decimal r))

-- the names of a backup and of a snapshot, by the first blank of their text
known_names : (text : List ℕ) → Known ((names : List ℕ × List ℕ)
    × (text ≡ names_text names.0 names.1) × IsPlainName names.0 × IsLayerName names.1)
known_names text = by_blank (position (λ byte. eqb byte 32) text) refl
  where
    HasNames : Type 0
    HasNames = (names : List ℕ × List ℕ) × (text ≡ names_text names.0 names.1) × IsPlainName names.0 × IsLayerName names.1

    by_names : (first rest : List ℕ) → ArePartsOf text first rest → Known (IsPlainName first × IsLayerName rest) → Known HasNames
    by_names first rest parts (inl good) = inl ((first, rest), parts.whole, good.0, good.1)
    by_names first rest parts (inr bad) =
        inr (λ has. no_backup text first rest parts (λ plain layer. bad (plain, layer)) has.0.0 has.0.1 has.2 has.3 has.1)

    by_blank : (blank : Option ℕ) → position (λ byte. eqb byte 32) text ≡ blank → Known HasNames
    by_blank None found = inr (λ has. no_names text has.0.0 has.0.1 (parted_not text found) has.1)
    by_blank (Some n) found = by_names _ _ (parted_into text n found) (known_both (known_plain_name _) (known_layer_name _))

-- which command a text is, as a choice
abbrev Choice : List ℕ → Type 0
Choice text =
    ((name : List ℕ) × (text ≡ codes "snapshot " ++ name) × IsSnapName name)
    ⊎ (((name : List ℕ) × (text ≡ codes "remove " ++ name) × IsLayerName name)
    ⊎ (((name : List ℕ) × (text ≡ codes "revert " ++ name) × IsLayerName name)
    ⊎ ((text ≡ codes "purge")
    ⊎ ((text ≡ codes "status")
    ⊎ (((r : ℕ) × (r < 10) × (text ≡ codes "fail r" ++ decimal r))
    ⊎ (((r : ℕ) × (r < 10) × (text ≡ codes "add r" ++ decimal r))
    ⊎ ((names : List ℕ) × (text ≡ codes "backup " ++ names) × ((parts : List ℕ × List ℕ)
    × (names ≡ names_text parts.0 parts.1) × IsPlainName parts.0 × IsLayerName parts.1))))))))

to_command : (text : List ℕ) → Choice text → (c : Command) × IsCommand text c
to_command text (inl (name, is, good)) = (command.Snapshot name, record { named = good; spelled = is })
to_command text (inr (inl (name, is, good))) = (command.Remove name, record { named = good; spelled = is })
to_command text (inr (inr (inl (name, is, good)))) = (command.Revert name, record { named = good; spelled = is })
to_command text (inr (inr (inr (inl is)))) = (command.Purge, record { named = tt; spelled = is })
to_command text (inr (inr (inr (inr (inl is))))) = (command.Status, record { named = tt; spelled = is })
to_command text (inr (inr (inr (inr (inr (inl (r, small, is))))))) = (command.Fail r, record { named = small; spelled = is })
to_command text (inr (inr (inr (inr (inr (inr (inl (r, small, is)))))))) = (command.Add r, record { named = small; spelled = is })
to_command text (inr (inr (inr (inr (inr (inr (inr (names, is, (parts, spelled, plain, layer))))))))) =
    (command.Backup parts.0 parts.1, record { named = (plain, layer); spelled = is ∙ ap (λ l. codes "backup " ++ l) spelled })

to_choice : (text : List ℕ) (c : Command) → IsCommand text c → Choice text
to_choice text (command.Snapshot name) is = inl (name, is.spelled, is.named)
to_choice text (command.Remove name) is = inr (inl (name, is.spelled, is.named))
to_choice text (command.Revert name) is = inr (inr (inl (name, is.spelled, is.named)))
to_choice text command.Purge is = inr (inr (inr (inl is.spelled)))
to_choice text command.Status is = inr (inr (inr (inr (inl is.spelled))))
to_choice text (command.Fail r) is = inr (inr (inr (inr (inr (inl (r, is.named, is.spelled))))))
to_choice text (command.Add r) is = inr (inr (inr (inr (inr (inr (inl (r, is.named, is.spelled)))))))
to_choice text (command.Backup backup snapshot) is =
    inr (inr (inr (inr (inr (inr (inr (names_text backup snapshot, is.spelled, ((backup, snapshot), refl, is.named.0, is.named.1))))))))

known_command : (text : List ℕ) → Known ((c : Command) × IsCommand text c)
known_command text =
    known_along (to_command text) (λ found. to_choice text found.0 found.1)
    (known_either (known_named known_snap_name (codes "snapshot ") text)
    (known_either (known_named known_layer_name (codes "remove ") text)
    (known_either (known_named known_layer_name (codes "revert ") text)
    (known_either (known_text text (codes "purge"))
    (known_either (known_text text (codes "status"))
    (known_either (known_digit (codes "fail r") text)
    (known_either (known_digit (codes "add r") text) (known_named known_names (codes "backup ") text))))))))

known_replica : (replicas : ℕ) (c : Command) → Known (NamesReplica replicas c)
known_replica replicas (command.Fail r) = known_less r replicas
known_replica replicas (command.Add r) = known_less r replicas
known_replica replicas (command.Snapshot name) = inl tt
known_replica replicas (command.Remove name) = inl tt
known_replica replicas (command.Revert name) = inl tt
known_replica replicas command.Purge = inl tt
known_replica replicas command.Status = inl tt
known_replica replicas (command.Backup backup snapshot) = inl tt

known_command_item : (replicas : ℕ) (d : Data) → Known ((c : Command) × IsCommandItem replicas d c)
known_command_item replicas d =
    known_along (λ found. (found.2.0, (found.0, found.1, found.2.1, found.2.2)))
    (λ found. (found.1.0, found.1.1, (found.0, found.1.2, found.1.3)))
    (known_held (as_str d) (λ text. known_of_one (same_text text) (known_command text) (known_replica replicas)))

-- ---- streams

known_frames : (replicas : ℕ) (d : Data) → Known ((count : ℕ) × IsStreamItem replicas d (stream.Frames count))
known_frames replicas d =
    known_three (known_held (member whole (codes "frames") d)
    (λ count. known_both (known_most count most_input) (known_none (get (codes "control") d))))

known_control : (replicas : ℕ) (d : Data) → Known ((cs : List Command) × IsStreamItem replicas d (stream.Control cs))
known_control replicas d =
    known_three (known_of_one (same_list (IsCommandItem replicas) (one_command replicas) (get (codes "control") d))
    (known_list (IsCommandItem replicas) (known_command_item replicas) (get (codes "control") d))
    (λ cs. known_both (known_most (length cs) most_calls) (known_none (get (codes "frames") d))))

known_stream : (replicas : ℕ) (d : Data) → Known ((s : StreamHead) × IsStreamItem replicas d s)
known_stream replicas d = known_along to back (known_either (known_frames replicas d) (known_control replicas d))
  where
    to : ((count : ℕ) × IsStreamItem replicas d (stream.Frames count))
        ⊎ ((cs : List Command) × IsStreamItem replicas d (stream.Control cs))
        → (s : StreamHead) × IsStreamItem replicas d s
    to (inl (count, is)) = (stream.Frames count, is)
    to (inr (cs, is)) = (stream.Control cs, is)

    back : (s : StreamHead) × IsStreamItem replicas d s
        → ((count : ℕ) × IsStreamItem replicas d (stream.Frames count))
        ⊎ ((cs : List Command) × IsStreamItem replicas d (stream.Control cs))
    back (stream.Frames count, is) = inl (count, is)
    back (stream.Control cs, is) = inr (cs, is)

known_streams : (d : Data) (replicas : ℕ) → Known ((ss : List StreamHead) × HasStreams d replicas ss)
known_streams d replicas =
    known_four (known_of_one (same_streams replicas (get (codes "streams") d))
    (known_list (IsStreamItem replicas) (known_stream replicas) (get (codes "streams") d))
    (λ ss. known_both (known_most 1 (length ss)) (known_both (known_most (length ss) most_streams)
    (known_most (count_by backs_up ss) 1))))

-- ---- plans of lines

known_rising : (low : ℕ) (ns : List ℕ) → Known (RisesAbove low ns)
known_rising low [] = inl tt
known_rising low (n ∷ ns) = known_both (known_less low n) (known_rising n ns)

known_carry : (d : Data) → Known ((n : ℕ) × IsCarryItem d n)
known_carry d = known_two (known_held (whole d) (λ n. known_most n largest_carry))

known_fail : (value : Option Data) → Known ((fail : List ℕ) × HasFail value fail)
known_fail value =
    known_three (known_of_one (same_list IsCarryItem one_carry value) (known_list IsCarryItem known_carry value)
    (λ fail. known_both (known_most (length fail) most_failures) (known_rising 0 fail)))

known_number : (count : ℕ) (name : List ℕ) (d : Data) → Known ((n : ℕ) × HasNumberBelow count name d n)
known_number count name d = known_two (known_held (member whole name d) (λ n. known_less n count))

known_plan : (streams replicas : ℕ) (d : Data) → Known ((plan : LinePlan) × IsLinePlan streams replicas d plan)
known_plan streams replicas d =
    known_along to back
    (known_both (known_number streams (codes "worker") d)
    (known_both (known_number replicas (codes "replica") d) (known_fail (get (codes "fail") d))))
  where
    to : ((w : ℕ) × HasNumberBelow streams (codes "worker") d w) × (((r : ℕ) × HasNumberBelow replicas (codes "replica") d r)
        × ((fail : List ℕ) × HasFail (get (codes "fail") d) fail)) → (plan : LinePlan) × IsLinePlan streams replicas d plan
    to ((w, from), ((r, at), (fail, are))) =
        (record { worker = w; replica = r; fail = fail }, record { worker = from; replica = at; fail = are })

    back : (plan : LinePlan) × IsLinePlan streams replicas d plan
        → ((w : ℕ) × HasNumberBelow streams (codes "worker") d w) × (((r : ℕ) × HasNumberBelow replicas (codes "replica") d r)
        × ((fail : List ℕ) × HasFail (get (codes "fail") d) fail))
    back (plan, is) = ((plan.worker, is.worker), ((plan.replica, is.replica), (plan.fail, is.fail)))

known_apart : (p q : LinePlan) → Known (AreApart p q)
known_apart p q = known_not (known_both (cases_eq p.worker q.worker) (cases_eq p.replica q.replica))

known_no_pair : (ps : List LinePlan) → Known (NoPairTwice ps)
known_no_pair [] = inl tt
known_no_pair (p ∷ ps) = known_both (known_all (known_apart p) ps) (known_no_pair ps)

known_plans : (streams replicas : ℕ) (value : Option Data) → Known ((plans : List LinePlan) × ArePlans streams replicas value plans)
known_plans streams replicas None = inl ([], refl)
known_plans streams replicas (Some d) =
    known_two (known_of_one (same_list (IsLinePlan streams replicas) (one_plan streams replicas) (Some d))
    (known_list (IsLinePlan streams replicas) (known_plan streams replicas) (Some d)) known_no_pair)

-- ---- members

known_replicas : (d : Data) → Known ((count : ℕ) × HasReplicas d count)
known_replicas d =
    known_three (known_held (member whole (codes "replicas") d) (λ count. known_both (known_most 1 count) (known_most count most_replicas)))

one_count : (d : Data) (m n : ℕ) → HasReplicas d m → HasReplicas d n → m ≡ n
one_count d m n is too = same_value (member whole (codes "replicas") d) is.0 too.0

known_flag : (d : Data) (name : List ℕ) → Known ((flag : Bool) × HasFlag d name flag)
known_flag d name = of_flag (member_or false as_bool name d)
  where
    of_flag : (found : Option Bool) → Known ((flag : Bool) × (found ≡ Some flag))
    of_flag None = inr (λ told. is_none told.1)
      where
        is_none : {flag : Bool} → None ≡ Some flag → ⊥
        is_none e = cc
    of_flag (Some flag) = inl (flag, refl)

known_good : (d : Data) (m : Member) → Known (IsGood d m)
known_good d member_of.Volume = known_two (known_held (member as_str (codes "volume") d) known_plain_name)
known_good d member_of.Size = known_two (known_held (member whole (codes "size") d) known_size)
known_good d member_of.Replicas = known_replicas d
known_good d member_of.Open = known_flag d (codes "open")
known_good d member_of.Save = known_flag d (codes "save")
known_good d member_of.Now = known_two (known_held (member_or [] as_str (codes "now") d) known_time)
known_good d member_of.Streams =
    known_along (λ found. (found.0, found.2.0, found.1, found.2.1)) (λ found. (found.0, found.2, (found.1, found.3)))
    (known_of_one (one_count d) (known_replicas d) (known_streams d))
known_good d member_of.Lines =
    known_along (λ found. (found.0, found.2.0, found.2.2.0, found.1, found.2.1, found.2.2.1))
    (λ found. (found.0, found.3, (found.1, found.4, (found.2, found.5))))
    (known_of_one (one_count d) (known_replicas d)
    (λ replicas. known_of_one (λ ss ts is too. same_streams replicas (get (codes "streams") d) ss ts is.0 too.0) (known_streams d replicas)
    (λ ss. known_plans (length ss) replicas (get (codes "lines") d))))

-- the members are all good, or one is the first that is not
first_bad : (ms : List Member) (d : Data) → AreGood d ms ⊎ ((m : Member) × IsFirstBadOf ms d m)
first_bad [] d = inl tt
first_bad (n ∷ ns) d = by_cases (known_good d n) (first_bad ns d)
  where
    by_cases : Known (IsGood d n) → AreGood d ns ⊎ ((m : Member) × IsFirstBadOf ns d m)
        → AreGood d (n ∷ ns) ⊎ ((m : Member) × IsFirstBadOf (n ∷ ns) d m)
    by_cases (inl good) (inl others) = inl (good, others)
    by_cases (inl good) (inr (m, bad)) = inr (m, inr (good, bad))
    by_cases (inr none) others = inr (n, inl (refl, none))

head_of_good : (d : Data) → AreGood d in_order → (head : ScriptHead) × IsScriptHead d head
head_of_good d ((volume, v), ((size, s), (count, ((opens, o), ((saves, t), ((now, n), (listed, (last, end)))))))) =
    let (replicas, streams, plans, r, ss, ps) = last in (
      record { streams = streams; lines = plans; now = now; volume = volume; size = size; replicas = replicas; opens = opens; saves = saves },
      record { volume = v; size = s; replicas = r; opens = o; saves = t; now = n; streams = ss; lines = ps },
    )

-- ---- the line

known_object : (line : List ℕ) → Known ((d : Data) × IsObject line d)
known_object line =
    known_along (λ both. (both.1.0, record { text = both.0; value = both.1.1; object = both.1.2 }))
    (λ found. (found.1.text, (found.0, found.1.value, found.1.object)))
    (known_both (known_test (is_utf8 line) (IsUtf8-from_is_utf8 line, is_utf8-from_IsUtf8 line))
    (known_held (read line) (λ d. known_true (is_some (as_object d)))))

-- the line says something, or is refused for a reason of its own
abbrev pub SaysOrIsRefused : List ℕ → Type 0
SaysOrIsRefused line = ((head : ScriptHead) × Says line head) ⊎ ((why : HeadError) × (why ≢ NoMemory) × RefusesLine line why)

pub says_or_refused : (line : List ℕ) → SaysOrIsRefused line
says_or_refused line = of_object (known_object line)
  where
    of_members : (d : Data) → IsObject line d → AreGood d in_order ⊎ ((m : Member) × IsFirstBadOf in_order d m) → SaysOrIsRefused line
    of_members d object (inl good) = let found = head_of_good d good in inl (found.0, (d, object, found.1))
    of_members d object (inr (m, bad)) = inr (BadMember m, (λ e. bad_memory e), (d, object, bad))
      where
        bad_memory : {m : Member} → BadMember m ≡ NoMemory → ⊥
        bad_memory e = cc

    json_memory : Json ≡ NoMemory → ⊥
    json_memory e = cc

    of_object : Known ((d : Data) × IsObject line d) → SaysOrIsRefused line
    of_object (inl (d, object)) = of_members d object (first_bad in_order d)
    of_object (inr none) = inr (Json, json_memory, λ d object. none (d, object))
