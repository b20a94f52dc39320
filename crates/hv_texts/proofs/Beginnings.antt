-- Entries that are the first of a reading's episodes, and one more of them.
use Rattle.std.proofs.Common.{◌≡◌, Bool, true, false, cond, List, [], ◌∷◌, ◌++◌, refl, sym, ◌∙◌, ap, subst}
use Rattle.std.specs.Prelude.{zip}
use Rattle.std.specs.List.{AllByRecursion}
use Rattle.hv_cond.specs.Diagram.{AllNodes, Diagram, IsNode, Keeps, holds}
use Rattle.hv_given.specs.Given.{AreEpisodes, IsEpisode, given_in}
use Rattle.hv_given.specs.declared.given.Given.{Given}
use Rattle.hv_plainpp.specs.Reading.{Met}
use Rattle.hv_texts.specs.Readings.{conditions_of}
use Rattle.hv_texts.specs.working.Sorting.{IsBegun}

-- one more entry that is the next episode
pub begun_more : (given : List Given) (g : Given) (m : Met) (met rest : List Met)
    → IsBegun given met (m ∷ rest) → IsEpisode g m → IsBegun (given ++ g ∷ []) met rest
begun_more [] g m met rest b e = subst (λ (ms : List Met). IsBegun (g ∷ []) ms rest) (sym b) (e, refl)
begun_more (h ∷ given) g m [] rest b e = b
begun_more (h ∷ given) g m (n ∷ met) rest b e = (b.0, begun_more given g m met rest b.1 e)

-- and its pair
pub begun_pair : (given : List Given) (g : Given) (m : Met) (met rest : List Met)
    → IsBegun given met (m ∷ rest)
    → zip (given ++ g ∷ []) met ≡ zip given met ++ (g, m) ∷ []
begun_pair [] g m met rest b = ap (λ (ms : List Met). zip (g ∷ []) ms) b
begun_pair (h ∷ given) g m [] rest b = absurd b
begun_pair (h ∷ given) g m (n ∷ met) rest b =
    ap (λ (ps : List (Given × Met)). (h, n) ∷ ps) (begun_pair given g m met rest b.1)

nil_is_not : (m : Met) (met : List Met) → m ∷ met ≡ [] → ⊥
nil_is_not m met e = cc

-- where nothing is left they are all episodes
pub begun_all : (given : List Given) (met : List Met) → IsBegun given met []
    → AreEpisodes given met
begun_all [] [] b = tt
begun_all [] (m ∷ met) b = nil_is_not m met b
begun_all (h ∷ given) [] b = b
begun_all (h ∷ given) (m ∷ met) b = (b.0, begun_all given met b.1)

-- what is so of each entry is so of each pair
pub pairs_from_given : (Q : Given → Type 0) (given : List Given) (met : List Met)
    → AllByRecursion Q given → AllByRecursion (λ (p : Given × Met). Q p.0) (zip given met)
pairs_from_given Q [] met all = tt
pairs_from_given Q (g ∷ given) [] all = tt
pairs_from_given Q (g ∷ given) (m ∷ met) all = (all.0, pairs_from_given Q given met all.1)

-- and of each entry of a configuration
pub given_in_all : (Q : Given → Type 0) (d : Diagram) (values : List Bool) (given : List Given)
    → AllByRecursion Q given → AllByRecursion Q (given_in d given values)
given_in_all Q d values [] all = tt
given_in_all Q d values (g ∷ given) all =
    step (holds d g.cond values) (given_in_all Q d values given all.1)
  where
    step : (b : Bool) → AllByRecursion Q (given_in d given values)
        → AllByRecursion Q (cond b (g ∷ given_in d given values) (given_in d given values))
    step true rest = (all.0, rest)
    step false rest = rest

------ entries of a configuration

-- one more entry
pub given_in_more : (d : Diagram) (values : List Bool) (given : List Given) (g : Given)
    → given_in d (given ++ g ∷ []) values
    ≡ given_in d given values ++ cond (holds d g.cond values) (g ∷ []) []
given_in_more d values [] g = refl
given_in_more d values (h ∷ given) g =
    step (holds d h.cond values) (given_in_more d values given g)
  where
    step : (b : Bool) → given_in d (given ++ g ∷ []) values
        ≡ given_in d given values ++ cond (holds d g.cond values) (g ∷ []) []
        → cond b (h ∷ given_in d (given ++ g ∷ []) values) (given_in d (given ++ g ∷ []) values)
        ≡ cond b (h ∷ given_in d given values) (given_in d given values)
        ++ cond (holds d g.cond values) (g ∷ []) []
    step true e = ap (λ (gs : List Given). h ∷ gs) e
    step false e = e

-- where it holds
pub given_in_with : (d : Diagram) (values : List Bool) (given : List Given) (g : Given)
    → holds d g.cond values ≡ true
    → given_in d (given ++ g ∷ []) values ≡ given_in d given values ++ g ∷ []
given_in_with d values given g e =
    given_in_more d values given g
    ∙ ap (λ (b : Bool). given_in d given values ++ cond b (g ∷ []) []) e

append_none : {A : Type 0} (xs : List A) → xs ++ [] ≡ xs
append_none [] = refl
append_none (x ∷ xs) = ap (λ ys. x ∷ ys) (append_none xs)

-- and where it doesn't
pub given_in_without : (d : Diagram) (values : List Bool) (given : List Given) (g : Given)
    → holds d g.cond values ≡ false
    → given_in d (given ++ g ∷ []) values ≡ given_in d given values
given_in_without d values given g e =
    given_in_more d values given g
    ∙ (ap (λ (b : Bool). given_in d given values ++ cond b (g ∷ []) []) e
    ∙ append_none (given_in d given values))

-- a store that grows changes no entries
pub given_in_kept : {old new : Diagram} → Keeps old new → (given : List Given)
    → AllNodes old (conditions_of given) → (values : List Bool)
    → given_in new given values ≡ given_in old given values
given_in_kept keeps [] nodes values = refl
given_in_kept {old} {new} keeps (g ∷ given) nodes values =
    ap (λ (b : Bool). cond b (g ∷ given_in new given values) (given_in new given values))
    (keeps.meaning g.cond nodes.0 values)
    ∙ ap (λ (gs : List Given). cond (holds old g.cond values) (g ∷ gs) gs)
    (given_in_kept keeps given nodes.1 values)

-- their conditions are nodes, with one more
pub given_nodes_more : (d : Diagram) (given : List Given) (g : Given)
    → AllNodes d (conditions_of given) → IsNode d g.cond
    → AllNodes d (conditions_of (given ++ g ∷ []))
given_nodes_more d [] g nodes node = (node, tt)
given_nodes_more d (h ∷ given) g nodes node = (nodes.0, given_nodes_more d given g nodes.1 node)
