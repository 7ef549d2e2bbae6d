use Rattle.std.proofs.Common.{◌≡◌, ◌≤◌, ◌<◌, ◌+◌, ◌++◌, ℕ, List, length, take, inl, refl, arith, length-append, length-take-le}
use Rattle.std.specs.declared.option.Option.{Option}
use Rattle.std.specs.Io.KnownBytes.{Consumes}
use Rattle.std.proofs.KnownBytes.{Consumes-trans}
use Rattle.amm_io.specs.Traffic.{TakesWithin}
use Rattle.amm_io.proofs.whole.read_within.Goals as goal

-- the bytes that were kept, and then those of one more read
one_read_more : (limit : ℕ) (a b c : Option (List ℕ)) (bytes buf : List ℕ) (count : ℕ) (Passed : Type 0) → Consumes a b bytes → Consumes b c (take count buf)
    → count ≤ length buf → length bytes + count ≤ limit + 1
    → (Passed → limit < length bytes + count) → (limit < length bytes + count → Passed) → TakesWithin limit a c Passed ⊥
one_read_more limit a b c bytes buf count Passed first second within most passed stopped =
    let size : length (bytes ++ take count buf) ≡ length bytes + count = omega (arith, length-append bytes (take count buf), length-take-le count buf within) in
    record {
      bytes = bytes ++ take count buf;
      given = Consumes-trans a b c bytes (take count buf) first second;
      most = omega (arith, size, most);
      passed = λ is. omega (arith, size, passed is);
      stopped = λ more. inl (stopped (omega (arith, size, more)));
    }

pub returns-then-count-room-clause-passed : goal.returns-then-count-room-clause-passed
returns-then-count-room-clause-passed g c =
    let read = c.in-Ok-read_at_most.ensures in
    one_read_more _ _ _ _ _ _ _ _ c.chunk.invariant.0 read.bytes.0 read.bound.0 (omega arith) (λ is. omega arith) (λ more. refl)

pub returns-in_default-extend_from_slice-clause-passed :
    goal.returns-in_default-extend_from_slice-clause-passed
returns-in_default-extend_from_slice-clause-passed g c =
    let read = c.in-Ok-read_at_most.ensures in
    one_read_more _ _ _ _ _ _ _ _ c.chunk.invariant.0 read.bytes.0 read.bound.0 (omega arith) (λ is. cc) (λ more. absurd (omega arith))
