-- The first of a race: the last write if its label is above the current strand's, and otherwise the standing read. Assumes nothing.
use mathlib.Core.Path.{◌≡◌, refl, sym, ap, ◌∙◌}
use mathlib.Core.List.{List}
use mathlib.Core.Bool.{Bool, true, false, false≢true}
use mathlib.Core.Option.{none, some}
use Prim.Native.Nat.{ℕ, ◌+◌, ◌-◌, ◌≤◌, ◌<◌}
use native.Mathlib.Omega.{arith}
use Rattle.jobfile.specs.Events.{access_of}
use Rattle.jobfile.specs.Trace.{event_at, moves}
use Rattle.jobfile.specs.declared.event.Kind.{Kind}
use Rattle.jobfile.specs.declared.event.Kind.TheVariants.{Write, Read}
use Rattle.jobfile.specs.Events.{access_to}
use Rattle.relation.proofs.Strand.{begun_some}
use Rattle.strands.specs.declared.Now.{Now}
use Rattle.races.specs.Trace.{record_of}
use Rattle.races.specs.Places.{given, found_class, first_of}
use Rattle.races.specs.Records.{second_of}
use Rattle.races.specs.Mark.{act_of, rules, event_trace}
use Rattle.races.proofs.Mark.{none_told, read_none}
use Rattle.taking.specs.Asking.{held_above}
use Rattle.taking.specs.Turns.{Findable, FirstFound}
use Rattle.taking.proofs.Asking.{on_its_record, current_labelled}
use Rattle.taking.proofs.Turned.{written_class, read_class, nothing_first}

module _ {part : List ℕ} {i : ℕ} {labels places : List ℕ} {now : Now} (A : Findable part i labels places now) where
  pub its_strand : (1 ≤ now.strands) × (now.strands - 1 < 4096)
  its_strand = (omega (arith, A.midway.reached.strands, begun_some (moves (event_at part)) i), current_labelled A.run A.next A.midway)

  module _ (r : ℕ) (is : r ≡ record_of ((event_trace (event_at part)).act i)) where
    its_number : r ≡ A.races.number
    its_number = is ∙ ap (λ a. record_of (act_of a)) A.races.is_an_access

    pub its_record : r < 4096
    its_record = omega (arith, its_number, on_its_record A.run A.next A.midway A.races.kind A.races.number A.races.is_an_access, A.run.records_within)

    -- the access, and that its record has not raced
    accesses : access_of (event_at part i) ≡ access_to A.races.kind r
    accesses = rw its_number A.races.is_an_access

    pub found_written : true ≡ held_above labels places r (now.strands - 1) → FirstFound part i (record { kind = Write; «record» = r })
    found_written w = record {
      record_is = is;
      class_is = written_class A.run A.next A.midway r (rw its_number A.races.unraced) A.races.kind accesses w;
    }

    pub found_read : false ≡ held_above labels places r (now.strands - 1) → FirstFound part i (record { kind = Read; «record» = r })
    found_read w = record { record_is = is; class_is = by A.races.kind accesses (held_above labels places (8192 + r) (now.strands - 1)) refl }
      where
        unraced : second_of rules (event_trace (event_at part)) r i ≡ none
        unraced = rw its_number A.races.unraced

        -- something is named
        named : first_of rules (event_trace (event_at part)) r i ≡ none → ⊥
        named e =
            let first : first_of rules (event_trace (event_at part)) r i ≡ some A.races.first = rw its_number A.races.names in
            false≢true (sym (ap given e) ∙ ap given first)

        by : (kind : Kind) → access_of (event_at part i) ≡ access_to kind r → (stood : Bool) → stood ≡ held_above labels places (8192 + r) (now.strands - 1)
            → found_class rules (event_trace (event_at part)) r i ≡ some 1
        by Write e true s = read_class A.run A.next A.midway r unraced e w s
        by Write e false s = absurd (named (nothing_first A.run A.next A.midway r unraced Write false e w s (none_told 0)))
        by Read e stood s = absurd (named (nothing_first A.run A.next A.midway r unraced Read stood e w s (read_none stood)))
