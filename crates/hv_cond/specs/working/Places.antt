-- Where the branches of the table are found: buckets by a hash, and the chain of each.
use Rattle.std.specs.Prelude.{◌≡◌, ◌==◌, ◌+◌, ◌*◌, ◌/◌, ◌%◌, ◌<◌, ◌≤◌, ℕ, if◌then◌else◌, List, [], ◌∷◌, ◌++◌, length, slice_index}
use Rattle.hv_cond.specs.declared.nodes.Decision.{Decision}
use Rattle.hv_cond.specs.declared.places.Places.{Places}
use Rattle.hv_cond.specs.Diagram.{top}

-- how many buckets there are
abbrev pub buckets : Places → ℕ
buckets places = length places.heads.items

-- the bucket of a branch, among n
unfoldable pub bucket : ℕ → Decision → ℕ
bucket n d =
    ((d.variable * 1000000007 + d.low.index * 1640531513 + d.high.index * 1327217885) / 1048576) % n

-- the index of the newest branch in a bucket; 0 where it has none
unfoldable pub newest_in : ℕ → ℕ → List Decision → ℕ
newest_in n b [] = 0
newest_in n b (d ∷ older) = if bucket n d == b then top older else newest_in n b older

-- the buckets have these branches, of which the newest comes first: a bucket begins with its newest
-- branch, and each branch leads to the next older one of its bucket
pub record IsPlaced (places : Places) (ds : List Decision) : Type 0 where
  pub room : length ds ≤ buckets places
  pub all : length places.before.items ≡ length ds
  pub heads : (b : ℕ) → b < buckets places
      → slice_index places.heads.items b ≡ newest_in (buckets places) b ds
  pub chains : (newer older : List Decision) (d : Decision) → ds ≡ newer ++ d ∷ older
      → slice_index places.before.items (length older)
      ≡ newest_in (buckets places) (bucket (buckets places) d) older
