-- The tests of k and the lengths, in their order: what each answers once those ahead of it have passed. Assumes nothing.
use mathlib.Core.Path.{◌≡◌, sym}
use Prim.Native.Nat.{ℕ, ◌≤◌, ◌<◌}
use borrow.Author.Tests.{lt-ltb, le-ltb}
use Rattle.std.specs.Prelude.{Ok, Err}
use Rattle.trailer.specs.declared.fault.Fault.TheVariants.{ShortBuffer, PastEvents, NoLabels}
use Rattle.judging.specs.Answers.{judgeable}
use Rattle.judging.proofs.Room.{room, no_room_lem}

module _ (events strands k labels links places : ℕ) where
  pub over_events : events < k → Err PastEvents ≡ judgeable events strands k labels links places
  unfolding judgeable
  over_events a = sym (rw (lt-ltb events k a))

  module _ (a : k ≤ events) where
    pub short_labels : labels < 8192 → Err ShortBuffer ≡ judgeable events strands k labels links places
    unfolding judgeable
    short_labels b = sym (rw (le-ltb events k a, lt-ltb labels 8192 b))

    module _ (b : 8192 ≤ labels) where
      pub short_links : links < 16384 → Err ShortBuffer ≡ judgeable events strands k labels links places
      unfolding judgeable
      short_links c = sym (rw (le-ltb events k a, le-ltb labels 8192 b, lt-ltb links 16384 c))

      module _ (c : 16384 ≤ links) where
        pub short_places : places < 16384 → Err ShortBuffer ≡ judgeable events strands k labels links places
        unfolding judgeable
        short_places d = sym (rw (le-ltb events k a, le-ltb labels 8192 b, le-ltb links 16384 c, lt-ltb places 16384 d))

        module _ (d : 16384 ≤ places) where
          pub over_room : 4096 < strands → Err NoLabels ≡ judgeable events strands k labels links places
          unfolding judgeable
          over_room e = sym (rw (le-ltb events k a, le-ltb labels 8192 b, le-ltb links 16384 c, le-ltb places 16384 d, no_room_lem strands e))

          pub no_fault : strands ≤ 4096 → Ok tt ≡ judgeable events strands k labels links places
          unfolding judgeable
          no_fault e = sym (rw (le-ltb events k a, le-ltb labels 8192 b, le-ltb links 16384 c, le-ltb places 16384 d, room strands e))
