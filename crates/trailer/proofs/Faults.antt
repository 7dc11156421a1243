-- The tests of the trailer's numbers, in their order: what each answers once those ahead of it have passed. Assumes nothing.
use mathlib.Core.Path.{◌≡◌, sym}
use mathlib.Core.Logic.{◌≢◌}
use Prim.Native.Nat.{ℕ, ◌*◌, ◌-◌, ◌≤◌, ◌<◌}
use borrow.Author.Tests.{eq-eqb, ne_eqb, lt-ltb, le-ltb}
use Rattle.std.specs.Prelude.{Ok, Err}
use Rattle.trailer.specs.declared.fault.Fault.TheVariants.{RecordCount, EventCount, Distance, Outside, Name}
use Rattle.trailer.specs.Trailer.{start_in}

module _ (before distance count records : ℕ) where
  pub no_records : records ≡ 0 → Err RecordCount ≡ start_in before distance count records
  unfolding start_in
  no_records a = sym (rw (eq-eqb records 0 a))

  module _ (a : records ≢ 0) where
    pub many_records : 4096 < records → Err RecordCount ≡ start_in before distance count records
    unfolding start_in
    many_records b = sym (rw (ne_eqb records 0 a, lt-ltb 4096 records b))

    module _ (b : records ≤ 4096) where
      pub many_events : 1000000 < count → Err EventCount ≡ start_in before distance count records
      unfolding start_in
      many_events c = sym (rw (ne_eqb records 0 a, le-ltb 4096 records b, lt-ltb 1000000 count c))

      module _ (c : count ≤ 1000000) where
        pub other_distance : distance ≢ 4 * count → Err Distance ≡ start_in before distance count records
        unfolding start_in
        other_distance d =
            sym (rw (ne_eqb records 0 a, le-ltb 4096 records b, le-ltb 1000000 count c, ne_eqb distance (4 * count) d))

        module _ (d : distance ≡ 4 * count) where
          pub long_distance : before < distance → Err Outside ≡ start_in before distance count records
          unfolding start_in
          long_distance e =
              sym (rw (ne_eqb records 0 a, le-ltb 4096 records b, le-ltb 1000000 count c, eq-eqb distance (4 * count) d, lt-ltb before distance e))

          module _ (e : distance ≤ before) where
            pub long_name : 64 < before - distance → Err Name ≡ start_in before distance count records
            unfolding start_in
            long_name f =
                sym (rw (
                  ne_eqb records 0 a,
                  le-ltb 4096 records b,
                  le-ltb 1000000 count c,
                  eq-eqb distance (4 * count) d,
                  le-ltb before distance e,
                  lt-ltb 64 (before - distance) f,
                ))

            pub no_fault : before - distance ≤ 64 → Ok (before - distance) ≡ start_in before distance count records
            unfolding start_in
            no_fault f =
                sym (rw (
                  ne_eqb records 0 a,
                  le-ltb 4096 records b,
                  le-ltb 1000000 count c,
                  eq-eqb distance (4 * count) d,
                  le-ltb before distance e,
                  le-ltb 64 (before - distance) f,
                ))
