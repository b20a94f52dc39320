-- The tokens of one entry, one after another.
use Rattle.std.proofs.Common.{◌≡◌, ◌≤◌, ◌<◌, ◌+◌, ◌++◌, ◌&&◌, ℕ, Bool, cond, List, [], ◌∷◌, length, take, get_or, refl, sym, ◌∙◌, ap, subst}
use Rattle.std.specs.List.{All}
use Rattle.std.specs.Prelude.{Result, Ok, Err, IfOk, OnOk}
use Rattle.std.proofs.lemmas.List.{take_all, take_more}
use Rattle.hv_base.specs.declared.place.Start.{Start}
use Rattle.hv_base.specs.declared.token.CTok.{CTok}
use Rattle.hv_base.specs.declared.why.Why.{Why}
use Rattle.hv_cond.specs.Diagram.{Diagram, IsNode, Keeps, holds}
use Rattle.hv_cond.specs.declared.conditions.Cond.{Cond}
use Rattle.hv_cstream.proofs.Converting.{converting_given, converting_refused, converting_same, converting_sorts, in_parts}
use Rattle.hv_cstream.proofs.Starts.{entries_push, split_at, start_of, tokens_after, tokens_until, until_more}
use Rattle.hv_cstream.specs.Streams.{IsConverted, IsRefused}
use Rattle.hv_cstream.specs.declared.conversion.Conversion.{Conversion}
use Rattle.hv_cstream.specs.working.Converting.{IsConverting, TakesOut, Tokens, entry_tokens, with_more}
use Rattle.hv_ctoks.specs.Conversion.{converted}
use Rattle.hv_ctoks.specs.declared.reserved.ReservedNames.{ReservedNames}
use Rattle.hv_given.specs.Given.{given_in, tokens_of, with_starts}
use Rattle.hv_given.specs.declared.given.Given.{Given}
use Rattle.hv_toks.specs.Division.{Sorts}
use Rattle.hv_toks.specs.declared.parted.Parted.{Parted}
use Rattle.hv_toks.specs.Spelled.{Spelled, spelled, all_spelled}
use Rattle.hv_toks.specs.declared.stream.StreamTok.{StreamTok}
use Rattle.hv_toks.specs.declared.token.PpTok.{PpTok}

-- a condition and what is live, in the store that had them and in one that is the same
pub mine_in : (old mid store : Diagram) (given mine live now_live : Cond) → Keeps old mid
    → IsNode old live → store ≡ mid → now_live ≡ live
    → ((values : List Bool) → holds mid mine values
    ≡ (holds old given values && holds old live values))
    → (values : List Bool) → holds store mine values
    ≡ (holds old given values && holds store now_live values)
mine_in old mid store given mine live now_live keeps node e same meaning v =
    ap (λ (d : Diagram). holds d mine v) e
    ∙ (meaning v
    ∙ ap (λ (b : Bool). holds old given v && b)
    (sym (keeps.meaning live node v)
    ∙ (ap (λ (d : Diagram). holds d live v) (sym e)
    ∙ ap (λ (c : Cond). holds store c v) (sym same))))

-- one more part of what is given
more_parts : (d old : Diagram) (valid given : Cond) (tokens : Tokens)
    (done more all : List (Spelled × Start)) (c : Conversion) → all ≡ done ++ more
    → IsConverting d valid (with_more old (with_more old tokens given done) given more) c
    → IsConverting d valid (with_more old tokens given all) c
more_parts d old valid given tokens done more all c e i =
    converting_same d valid (with_more old (with_more old tokens given done) given more)
    (with_more old tokens given all) c
    (λ v. ap (λ (l : List (Spelled × Start)). tokens v ++ cond (holds old given v) l []) e
    ∙ in_parts (tokens v) done more (holds old given v)) i

module _ (old store : Diagram) (given : Given) (mine valid : Cond) (tokens : Tokens)
    (c after : Conversion) (i : ℕ) (item : PpTok) (within : i < length given.tokens)
    (here : item ≡ get_or given.tokens i item)
    (inv : IsConverting store valid (with_more old tokens given.cond (tokens_until given i)) c)
    (meaning : (values : List Bool) → holds store mine values
    ≡ (holds old given.cond values && holds store c.live values)) where
  -- a token that is converted
  pub entry_given : (tok : CTok) → IsNode store mine
      → converted c.reserved item.kind item.text ≡ Ok tok
      → after ≡ record c {
        stream = c.stream ++ record {
          tok = tok;
          cond = mine;
          start = start_of given i;
        } ∷ [];
      }
      → IsConverting store valid (with_more old tokens given.cond (tokens_until given (i + 1))) after
  entry_given tok node becomes is_after =
      more_parts store old valid given.cond tokens (tokens_until given i)
      ((spelled item, start_of given i) ∷ []) (tokens_until given (i + 1)) after
      (until_more given i item within
      ∙ ap (λ (t : PpTok). tokens_until given i ++ (spelled t, start_of given i) ∷ []) (sym here))
      (converting_given store old valid given.cond
      (with_more old tokens given.cond (tokens_until given i)) c after (spelled item)
      (record { tok = tok; cond = mine; start = start_of given i }) inv is_after node meaning becomes)

  -- a token that is refused, and those after it
  pub entry_refused : (new : Diagram) (why : Why) → Keeps store new
      → converted c.reserved item.kind item.text ≡ Err why
      → TakesOut store new given.place why mine c after
      → IsConverting new valid (with_more old tokens given.cond (entry_tokens given)) after
  entry_refused new why keeps becomes out =
      more_parts new old valid given.cond tokens (tokens_until given i)
      ((spelled item, start_of given i) ∷ tokens_after given i) (entry_tokens given) after
      (split_at given i item within
      ∙ ap (λ (t : PpTok). tokens_until given i
      ++ (spelled t, start_of given i) ∷ tokens_after given i) (sym here))
      (converting_refused store old new keeps valid given.cond mine
      (with_more old tokens given.cond (tokens_until given i)) c after (spelled item)
      (start_of given i) (tokens_after given i) given.place why inv out refl meaning becomes)

-- all tokens
pub entry_all : (d old : Diagram) (given : Given) (valid : Cond) (tokens : Tokens) (c : Conversion)
    (i : ℕ) → length given.tokens ≤ i
    → IsConverting d valid (with_more old tokens given.cond (tokens_until given i)) c
    → IsConverting d valid (with_more old tokens given.cond (entry_tokens given)) c
entry_all d old given valid tokens c i l inv =
    subst (λ (ts : List PpTok). IsConverting d valid
    (with_more old tokens given.cond
    (with_starts given 0 (all_spelled ts))) c)
    (take_all i given.tokens l) inv

-- where a call succeeds
pub on_ok : {T E : Type 0} (r : Result T E) (P Q : Type 0) → (P → Q) → OnOk r P → OnOk r Q
on_ok (Ok x) P Q f p = f p
on_ok (Err x) P Q f p = tt

------ all entries

-- one more entry
pub entries_more : (old store : Diagram) → Keeps old store → (given : List Given) (i : ℕ) (g : Given)
    → i < length given → g ≡ get_or given i g → IsNode old g.cond → (values : List Bool)
    → tokens_of (given_in old (take (i + 1) given) values)
    ≡ tokens_of (given_in old (take i given) values)
    ++ cond (holds store g.cond values) (entry_tokens g) []
entries_more old store keeps given i g within here node v =
    ap (λ (gs : List Given). tokens_of (given_in old gs v))
    (take_more given i g within ∙ ap (λ (x : Given). take i given ++ x ∷ []) (sym here))
    ∙ (entries_push old (take i given) g v
    ∙ ap (λ (b : Bool). tokens_of (given_in old (take i given) v) ++ cond b (entry_tokens g) [])
    (sym (keeps.meaning g.cond node v)))

-- the answer, where there is one
pub sorts_if_ok : {E : Type 0} {old new : Diagram} (r : Result (Parted (List StreamTok)) E)
    → Keeps old new → (valid : Cond) (given : List Given) (reserved : ReservedNames) (c : Conversion)
    → All (λ (g : Given). IsNode old g.cond) given → (i : ℕ) → length given ≤ i
    → IsConverting new valid (λ values. tokens_of (given_in old (take i given) values)) c
    → c.reserved ≡ reserved → IfOk r (λ parted. parted.good ≡ c.live)
    → IfOk r (λ parted. parted.value ≡ c.stream) → IfOk r (λ parted. parted.failing ≡ c.refusals)
    → IfOk r (Sorts new valid (IsConverted reserved new given) (IsRefused reserved new given))
sorts_if_ok (Err x) keeps valid given reserved c nodes i l inv same good value failing = tt
sorts_if_ok {E} {old} {new} (Ok parted) keeps valid given reserved c nodes i l inv same good value
    failing =
    converting_sorts keeps valid given reserved c parted nodes
    (subst (λ (gs : List Given). IsConverting new valid
    (λ values. tokens_of (given_in old gs values)) c) (take_all i given l) inv)
    same good value failing
