-- What each message is judged with, and that it can be performed.
use Rattle.std.proofs.Common.{◌≡◌, refl, sym, ◌∙◌, ℕ, ◌+◌, ◌≤◌, ◌<◌, true, false, List, length, Ok, Err, arith, le-leb}
use Rattle.std.specs.Option.{is_some}
use borrow.Author.Tests.{lt-leb, lt-ltb, le-ltb, ne_eqb}
use Rattle.field.specs.Answer.{name_taken, table_full, unsound}
use Rattle.field.specs.Choice.{pick}
use Rattle.field.specs.Field.{fault_at, octet_at, number_at}
use Rattle.field.specs.Refusal.{refusal_number}
use Rattle.field.specs.declared.Fault.{Fault}
use Rattle.field.specs.declared.Refusal.{Refusal}
use Rattle.field.proofs.FieldLaws.{octet_there, octet_missing, number_there, number_missing}
use Rattle.value.specs.Value.{max_value_size}
use Rattle.message.specs.Layout.{max_name_length}
use Rattle.message.specs.Kinds.{kind_byte, IsKindOf}
use Rattle.message.specs.Reader.{name_in, assignment_length, id_allowed, parse_assignment}
use Rattle.message.specs.declared.AllowedId.TheVariants.{Only}
use Rattle.message.specs.declared.Assignment.{Assignment}
use Rattle.message.specs.declared.Update.{Update}
use Rattle.message.specs.declared.Kind.{Kind}
use Rattle.message.specs.declared.Kind.TheVariants as K
use Rattle.message.proofs.KindLaws.{byte_of, unknown_of}
use Rattle.message.proofs.TakenLaws.{assignment_fits}
use Rattle.table.specs.Names.{entry_named}
use Rattle.table.specs.Table.{TableMemory, lent, Holds, entries_of, parse_held_update, max_entries}
use Rattle.table.proofs.SearchLaws.{named_is_some, holds_less}
use Rattle.table.proofs.TabulateLaws.{length_entries}
use Rattle.table.proofs.UpdateLaws.{held_update_fits}
use Rattle.soundness.specs.Sound.{sound_table}
use Rattle.soundness.proofs.ReadableLaws.{sound_holds, sound_count}
use Rattle.protocol.specs.Copy.{judge_copy_assignment, judge_copy_update, judge_copy_kind, judge_copy, execute_copy, copy_message}
use Rattle.protocol.specs.Place.{execute_copy_with_place, copy_with_place, copy_place}
use Rattle.client.specs.declared.CopyDecision.TheVariants as D
use Rattle.client.specs.Lent.{copied, bare_copied, refused_copied, CopyJudged, copy_verdict_of, DecidesCopy}

-- ---- another revision, and an update

module _ (heads bytes : List ℕ) (count : ℕ) (m : List ℕ) (kind : Kind) where
  abbrev DecidesKind : CopyJudged → Type 0
  DecidesKind judged = DecidesCopy count m judged (judge_copy_kind max_entries (entries_of (lent heads bytes count)) (kind_byte kind) m)

  pub revision_cut : (fault : Fault) → kind ≡ K.Unsupported → Err fault ≡ number_at m 1 → DecidesKind (Err fault)
  unfolding judge_copy_kind pick
  revision_cut fault is cut =
      let h = number_missing m 1 fault cut in
      rw (is, h.1, lt-leb 3 (length m) h.0) (record { verdict = refl; copyable = tt })

  pub revision_ignored : (revision : ℕ) → kind ≡ K.Unsupported → Ok revision ≡ number_at m 1 → DecidesKind (Ok (D.Ignore revision 3))
  unfolding judge_copy_kind pick
  revision_ignored revision is there =
      let h = number_there m 1 revision there in
      rw (is, le-leb 3 (length m) h.0, ← h.1) (record { verdict = refl; copyable = tt })

  pub update_cut : (fault : Fault) → kind ≡ K.Update → Err fault ≡ parse_held_update (entries_of (lent heads bytes count)) m → DecidesKind (Err fault)
  unfolding judge_copy_kind judge_copy_update pick
  update_cut fault is cut = rw (is, ← cut) (record { verdict = refl; copyable = tt })

  pub update_stored : (update : Update) → kind ≡ K.Update → Ok update ≡ parse_held_update (entries_of (lent heads bytes count)) m
      → DecidesKind (Ok (D.StoreUpdate update))
  unfolding judge_copy_kind judge_copy_update pick
  update_stored update is read =
      let fits = held_update_fits (lent heads bytes count) m update.id update.number update.value_length (sym read) in
      rw (is, ← read) (record { verdict = refl; copyable = fits })

-- ---- an assignment

pub new_fits : (count : ℕ) (m : List ℕ) (new : Assignment) → Ok new ≡ parse_assignment (id_allowed (Only count)) m
    → (assignment_length new.name_length new.value_length ≤ length m) × (new.name_length ≤ max_name_length) × (new.value_length ≤ max_value_size)
new_fits count m new read =
    assignment_fits (id_allowed (Only count)) m new.name_length new.type_code new.id new.number new.value_length (sym read)

module _ (heads bytes : List ℕ) (count : ℕ) (m : List ℕ) where
  abbrev DecidesNew : CopyJudged → Type 0
  DecidesNew judged =
      DecidesCopy count m judged (judge_copy_assignment max_entries (entries_of (lent heads bytes count)) m (parse_assignment (id_allowed (Only count)) m))

  pub new_cut : (fault : Fault) → Err fault ≡ parse_assignment (id_allowed (Only count)) m → DecidesNew (Err fault)
  unfolding judge_copy_assignment
  new_cut fault cut = rw (← cut) (record { verdict = refl; copyable = tt })

  -- "13, then 11"
  pub new_held : (new : Assignment) → Ok new ≡ parse_assignment (id_allowed (Only count)) m
      → true ≡ is_some (entry_named (name_in new.name_length m) (entries_of (lent heads bytes count)))
      → DecidesNew (Err (fault_at name_taken 0))
  unfolding judge_copy_assignment pick
  new_held new read held =
      let taken = sym (named_is_some (name_in new.name_length m) (entries_of (lent heads bytes count))) ∙ sym held in
      rw (← read, taken) (record { verdict = refl; copyable = tt })

  pub new_full : (new : Assignment) → Ok new ≡ parse_assignment (id_allowed (Only count)) m
      → false ≡ is_some (entry_named (name_in new.name_length m) (entries_of (lent heads bytes count))) → max_entries ≤ count
      → DecidesNew (Err (fault_at table_full 0))
  unfolding judge_copy_assignment pick
  new_full new read free full =
      let absent = sym (named_is_some (name_in new.name_length m) (entries_of (lent heads bytes count))) ∙ sym free in
      rw (← read, absent, length_entries (lent heads bytes count), le-ltb count max_entries full) (record { verdict = refl; copyable = tt })

  pub new_stored : (new : Assignment) → Ok new ≡ parse_assignment (id_allowed (Only count)) m
      → false ≡ is_some (entry_named (name_in new.name_length m) (entries_of (lent heads bytes count))) → count < max_entries
      → DecidesNew (Ok (D.StoreNew new))
  unfolding judge_copy_assignment pick
  new_stored new read free room =
      let absent = sym (named_is_some (name_in new.name_length m) (entries_of (lent heads bytes count))) ∙ sym free in
      let fits = new_fits count m new read in
      rw (← read, absent, length_entries (lent heads bytes count), lt-ltb count max_entries room)
      (record { verdict = refl; copyable = (room, fits.0, fits.1, fits.2) })

-- ---- by its kind

pub none_cut : (table : TableMemory) (m : List ℕ) (fault : Fault) → Err fault ≡ octet_at m 0
    → DecidesCopy table.count m (Err fault) (judge_copy max_entries (entries_of table) m)
unfolding judge_copy pick
none_cut table m fault cut =
    let h = octet_missing m 0 fault cut in
    rw (h.1, lt-leb 1 (length m) h.0) (record { verdict = refl; copyable = tt })

pub kind_decides : (table : TableMemory) (m : List ℕ) (byte : ℕ) (kind : Kind) → Ok byte ≡ octet_at m 0 → IsKindOf byte (Ok kind)
    → judge_copy_kind max_entries (entries_of table) (kind_byte kind) m ≡ judge_copy max_entries (entries_of table) m
unfolding judge_copy pick
kind_decides table m byte kind there is =
    let h = octet_there m 0 byte there in
    rw (le-leb 1 (length m) h.0, ← h.1, byte_of is) refl

pub kind_unknown : (table : TableMemory) (m : List ℕ) (byte : ℕ) (refusal : Refusal) → Ok byte ≡ octet_at m 0 → IsKindOf byte (Err refusal)
    → DecidesCopy table.count m (Err (fault_at (refusal_number refusal) 0)) (judge_copy max_entries (entries_of table) m)
unfolding judge_copy judge_copy_kind pick
kind_unknown table m byte refusal there is =
    let h = octet_there m 0 byte there in
    let u = unknown_of is in
    let other = u.1 in
    rw (
      le-leb 1 (length m) h.0,
      ← h.1,
      u.0,
      ne_eqb _ _ (other K.KeepAlive),
      ne_eqb _ _ (other K.HelloComplete),
      ne_eqb _ _ (other K.Unsupported),
      ne_eqb _ _ (other K.Assignment),
      ne_eqb _ _ (other K.Update),
    ) (record { verdict = refl; copyable = tt })

-- ---- what is done

module _ (heads bytes : List ℕ) (count id : ℕ) where
  pub next_there : sound_table max_entries (lent heads bytes count) ≡ true → id ≡ count → count < max_entries → Holds (id + 1) heads bytes
  next_there sound next room = holds_less (id + 1) (omega arith) (sound_holds max_entries (lent heads bytes count) sound)

  pub held_there : sound_table max_entries (lent heads bytes count) ≡ true → id < count → Holds (id + 1) heads bytes
  held_there sound held =
      holds_less (id + 1) (omega (arith, sound_count max_entries (lent heads bytes count) sound)) (sound_holds max_entries (lent heads bytes count) sound)

-- ---- a call

pub unsound_copy : (table : TableMemory) (m : List ℕ) → sound_table max_entries table ≡ false
    → copied (bare_copied unsound) table ≡ copy_with_place max_entries table m
unfolding copy_message copy_place execute_copy pick
unsound_copy table m h = rw h

pub sound_copy : (table : TableMemory) (m : List ℕ) (judged : CopyJudged) → sound_table max_entries table ≡ true
    → DecidesCopy table.count m judged (judge_copy max_entries (entries_of table) m)
    → execute_copy_with_place table (copy_verdict_of m judged) ≡ copy_with_place max_entries table m
unfolding copy_message copy_place pick
sound_copy table m judged h decides = rw (h, ← decides.verdict)

pub refused_copy : (table : TableMemory) (m : List ℕ) (fault : Fault) → sound_table max_entries table ≡ true
    → DecidesCopy table.count m (Err fault) (judge_copy max_entries (entries_of table) m)
    → copied (refused_copied fault) table ≡ copy_with_place max_entries table m
unfolding execute_copy
refused_copy table m fault h decides = sound_copy table m (Err fault) h decides
