-- What the tables of computed answers hold.
use Rattle.std.specs.Prelude.{◌==◌, ℕ, Bool, ◌&&◌, if◌then◌else◌, nat_lt, Option}
use Rattle.std.specs.HashMap.{get, spare}
use Rattle.hv_cond.specs.declared.conditions.Cond.{Cond}
use Rattle.hv_cond.specs.declared.results.Results.{Results}

-- two conditions, the older one first
abbrev pub ordered_pair : Cond → Cond → Cond × Cond
ordered_pair a b = if nat_lt b.index a.index then (b, a) else (a, b)

-- whether two pairs are the same
abbrev pub same_pair : Cond × Cond → Cond × Cond → Bool
same_pair p q = p.0.index == q.0.index && p.1.index == q.1.index

-- whether two pairs are the same, in either order
unfoldable pub is_same_pair : Cond → Cond → Cond → Cond → Bool
is_same_pair a b x y = same_pair (ordered_pair a b) (ordered_pair x y)

-- the answer that was kept for two conditions, in either order
unfoldable pub known : Results → Cond → Cond → Option Cond
known results a b = get same_pair results.answers (ordered_pair a b)

-- how many answers there is room for
abbrev pub room : Results → ℕ
room results = spare results.answers
