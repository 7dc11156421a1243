-- Writing is exact: each of the four ways in which a write ends is that of a row that is given, or of none. Assumes nothing.
use Prim.Native.Nat.{ℕ, ◌/◌, ◌<◌}
use mathlib.Core.Path.{◌≡◌, refl, sym, ◌∙◌}
use mathlib.Core.Logic.{inl, inr}
use mathlib.Core.List.{List, [], ◌∷◌, ◌++◌}
use lib.ListN.{length}
use native.Mathlib.Omega.{arith}
use Rattle.std.specs.Prelude.{Result, Ok, Err}
use Rattle.trailer.specs.declared.fault.Fault.{Fault}
use Rattle.trailer.specs.declared.fault.Fault.TheVariants.{ShortOutput}
use Rattle.trailer.specs.Numbers.{number_of}
use Rattle.trailer.specs.Table.{row, Table, Exact, ExactNumbers}
use Rattle.trailer.proofs.Table.{first_row, not_row, given_front, given_back, none_both, ends_behind, exact, exact_numbers}
use Rattle.trailer.proofs.Table.{Ends as TableEnds}
use Rattle.jobfile.specs.declared.refusal.Refusal.{Refusal}
use Rattle.jobfile.specs.Refusals.{refusal_of}
use Rattle.jobfile.specs.Tasks.{trace_of}
use Rattle.jobfile.specs.Rows.{trace_table}
use Rattle.jobfile.proofs.Rows.{TraceEnds, trace_ends}
use Rattle.writing.specs.Written.{written_file, write_of, refusal_number, refusal_event}
use Rattle.writing.specs.Rows.{parts_table, write_table}
use Rattle.writing.proofs.Answers.{length-written}
use Rattle.writing.proofs.Faults.{Parts, none_given}
use Rattle.writing.proofs.Ends.{Ends, by_parts, by_events, by_room, whole, ends}

abbrev refuse : Fault → ℕ → Result ℕ Refusal
refuse f m = Err (refusal_of f m)

module _ (name : List ℕ) (records : ℕ) (events : List ℕ) (room : ℕ) where
  abbrev parts : Table
  parts = parts_table name records (length events)

  abbrev traced : Table
  traced = trace_table records (length events / 4) events

  abbrev file : List ℕ
  file = written_file name records events

  abbrev roomy : Table
  roomy = row 16 (room < length file) ∷ []

  abbrev WriteEnds : Table → Type 0
  WriteEnds table = TableEnds table (Ok (length file)) refuse (write_of name records events room)

  write_ends : WriteEnds (write_table name records events room)
  write_ends = by (ends name records events room)
    where
      -- behind the parts, with the answer of the events
      behind : Parts name records (length events) → (t : Result ℕ Refusal) → t ≡ trace_of records events
          → (TraceEnds records events (length events / 4) t → WriteEnds (traced ++ roomy)) → WriteEnds (write_table name records events room)
      behind p t q rest =
          ends_behind parts (traced ++ roomy) (Ok (length file)) refuse (write_of name records events room) (none_given name records (length events) p)
          (rest (rw q (trace_ends records events (length events / 4) p.some (omega (arith, p.whole)))))

      by : Ends name records events room → WriteEnds (write_table name records events room)
      by (by_parts f g q e) = inr (f, 0, sym e, given_front parts (traced ++ roomy) (number_of f) 0 g)
      by (by_events p r t e) = behind p (Err r) t refused
        where
          refused : TraceEnds records events (length events / 4) (Err r) → WriteEnds (traced ++ roomy)
          refused (inl (z, none)) = cc
          refused (inr (f, m, z, g)) = inr (f, m, sym e ∙ z, given_front traced roomy (number_of f) m g)
      by (by_room p s t l e) = behind p (Ok s) t short
        where
          short : TraceEnds records events (length events / 4) (Ok s) → WriteEnds (traced ++ roomy)
          short (inl (z, none)) = inr (ShortOutput, 0, sym e, given_back traced roomy 16 0 none (inl (first_row 16 (rw length-written l))))
          short (inr (f, m, z, g)) = cc
      by (whole p s t l e) = behind p (Ok s) t taken
        where
          taken : TraceEnds records events (length events / 4) (Ok s) → WriteEnds (traced ++ roomy)
          taken (inl (z, none)) = inl (sym (rw length-written e), none_both traced roomy none (not_row (λ h. omega (arith, length-written name records events)), tt))
          taken (inr (f, m, z, g)) = cc

  -- Writing is exact, for every name, record count, event bytes and length of the buffer.
  pub writing_exact : Exact (write_table name records events room) (Ok (length (written_file name records events))) (λ f m. Err (refusal_of f m))
      (write_of name records events room)
  writing_exact =
      exact (write_table name records events room) (Ok (length file)) refuse (write_of name records events room) refusal_number refusal_event
      (λ f m. (refl, refl)) (λ f m e. cc) write_ends

  pub writing_numbers : ExactNumbers (write_table name records events room) (refusal_number (write_of name records events room))
      (refusal_event (write_of name records events room))
  writing_numbers =
      exact_numbers (write_table name records events room) (Ok (length file)) refuse (write_of name records events room) refusal_number refusal_event
      (λ f m. (refl, refl)) refl write_ends
