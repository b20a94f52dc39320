use Rattle.std.proofs.Common.{◌∙◌, ◌+◌, ◌≤◌, ◌++◌, ℕ, List, [], ◌∷◌, ap, arith, drop, subst, subst₂, sym}
use Rattle.std.proofs.lemmas.List.{drop_all}
use Rattle.hv_base.specs.declared.why.Why.TheVariants.{OpenComment}
use Rattle.hv_cond.specs.Diagram.{Diagram}
use Rattle.hv_cond.specs.Laws.{Keeps-trans}
use Rattle.hv_directives.specs.Values.{piece_of}
use Rattle.hv_directives.specs.declared.piece.Piece.{Piece}
use Rattle.hv_plainpp.specs.Reading.{refusal}
use Rattle.hv_preproc.proofs.FaultsLemmas.{exit_of_step}
use Rattle.hv_preproc.proofs.FileWalk.{ArePiecesOf, IsWalked, entered_by, is_of, open_file, ready_for, walked_all, walked_first, walked_more, walked_next, walked_stops, whole_file}
use Rattle.hv_preproc.proofs.Included.{included_left, included_page}
use Rattle.hv_preproc.proofs.IncludedWalk.{inner_sound, inner_stops, inner_walked}
use Rattle.hv_preproc.proofs.Later.{reads_same}
use Rattle.hv_preproc.proofs.PieceReading.{IfNone_at, IfSome_at}
use Rattle.hv_preproc.proofs.Pieces.{Rises-from}
use Rattle.hv_preproc.specs.declared.page.Content.{Content}
use Rattle.hv_preproc.specs.declared.unit.Unit.{Unit as UnitSoFar}
use Rattle.hv_preproc.specs.working.Keys.{IsOfInitial, tokens_in}
use Rattle.hv_preproc.specs.working.Parts.{IsContentOf, IsReady}
use Rattle.hv_texts.specs.declared.origin.Origin.{Origin}
use Rattle.hv_preproc.proofs.walk.+read_file.Goals as goal
use Rattle.hv_preproc.proofs.walk.+read_file.Goals.{in-Some+in_ok-read_file, in_default}

------ a comment that isn't closed

pub refuse_comment-requires-clause-unit : goal.refuse_comment-requires-clause-unit
refuse_comment-requires-clause-unit t c = c.requires.sound.unit

pub returns-in-OpenComment-clause-read : goal.returns-in-OpenComment-clause-read
returns-in-OpenComment-clause-read t c = λ f is. (
  0,
  reads_same c.args.store.now c.refuse_comment.new.store c.args.unit.now c.refuse_comment.new.unit
      (c.args.stack ++ 0 ∷ []) (c.args.stack ++ 0 ∷ []) c.args.cond
      (λ values macros. refusal OpenComment (record {
        stack = c.args.stack;
        file = c.args.page.now.number;
        offset = c.in-OpenComment.offset;
      }))
      (whole_file c.args.pages.now.bundle.now c.args.left c.args.stack f)
      c.refuse_comment.ensures.keeps
      (λ values macros w l m. open_file c.args.left c.args.pages.now.bundle.now c.args.stack f
      c.args.page.now.number c.in-OpenComment.offset is.number
      (subst (λ (x : Content). IsContentOf x f) c.in-OpenComment.is is.content) macros)
      (c.in_ok-refuse_comment-in-OpenComment.ensures.read (c.args.stack ++ 0 ∷ [])
      c.requires.sound),
)

------ before the first piece

pub loop-piece-init : goal.loop-piece-init
loop-piece-init t c =
    walked_first c.args.store.now c.args.unit.now c.args.pages.now.bundle.now c.args.page.now
    c.args.stack c.args.cond c.args.left c.new-file.result c.deref-piece-items.result.now
    c.requires.page.0 c.requires.page.1
    (λ f is. subst (λ (ps : List Piece). ArePiecesOf ps f) (sym c.deref-piece-items.ensures.value)
    (subst (λ (x : Content). IsContentOf x f) c.in-Pieces.is is.content))
    c.requires.cond c.requires.sound c.new-file.ensures.name c.new-file.ensures.origin
    c.new-file.ensures.cond c.new-file.ensures.none

------ a piece

pub read_piece-requires-clause-groups : goal.read_piece-requires-clause-groups
read_piece-requires-clause-groups t c = c.loop-piece.invariant.groups

pub read_piece-requires-clause-rises : goal.read_piece-requires-clause-rises
read_piece-requires-clause-rises t c =
    let w = walked_next _ _ _ _ _ _ _ _ _ _ c.deref-piece-items.result.now c.loop-piece.piece-index
    c.piece-item.result (omega arith) c.piece-item.is c.loop-piece.invariant in (
      w.rise.1.0,
      Rises-from 0 w.low w.rise.1.0 (tokens_in (piece_of c.piece-item.result)) (omega arith)
          w.rise.1.1,
    )

pub read_piece-requires-clause-ends : goal.read_piece-requires-clause-ends
read_piece-requires-clause-ends t c =
    let w = walked_next _ _ _ _ _ _ _ _ _ _ c.deref-piece-items.result.now c.loop-piece.piece-index
    c.piece-item.result (omega arith) c.piece-item.is c.loop-piece.invariant in
    w.rise.0

pub read_piece-requires-clause-ready : goal.read_piece-requires-clause-ready
read_piece-requires-clause-ready t c =
    let w = walked_next _ _ _ _ _ _ _ _ _ _ c.deref-piece-items.result.now c.loop-piece.piece-index
    c.piece-item.result (omega arith) c.piece-item.is c.loop-piece.invariant in
    subst (λ (s : List ℕ). IsReady c.loop-piece.store c.loop-piece.unit s
    (piece_of c.piece-item.result)) (ap (λ (o : Origin). o.stack) (sym w.origin))
    (ready_for c.loop-piece.store c.loop-piece.unit c.args.stack w.low w.rise.1.0
    (piece_of c.piece-item.result) w.rise.1.1 w.sound)

pub read_piece-requires-clause-file : goal.read_piece-requires-clause-file
read_piece-requires-clause-file t c =
    let is = c.requires.page.1 in
    let same = ap (λ (o : Origin). o.file) c.loop-piece.invariant.origin ∙ is.number in
    subst (λ (n : ℕ). ¬ IsOfInitial n) (sym same) is.is_no_initial

pub returns-in_err-inner-clause-keeps : goal.returns-in_err-inner-clause-keeps
returns-in_err-inner-clause-keeps t c =
    Keeps-trans c.loop-piece.invariant.keeps c.read_piece.ensures.keeps

pub returns-in_err-inner-clause-stops : goal.returns-in_err-inner-clause-stops
returns-in_err-inner-clause-stops t c =
    let w = walked_next _ _ _ _ _ _ _ _ _ _ c.deref-piece-items.result.now c.loop-piece.piece-index
    c.piece-item.result (omega arith) c.piece-item.is c.loop-piece.invariant in
    exit_of_step c.from_residual-in_err-inner.result _ _ c.in_err-inner.field-0.0
    c.from_residual-in_err-inner.ensures.1 c.in_err-inner.ensures.stops
    (λ place conds s f is. walked_stops c.args.store.now c.loop-piece.store c.read_piece.new.store
    c.args.unit.now c.loop-piece.unit c.args.pages.now.bundle.now c.args.page.now c.args.stack
    c.args.cond c.args.left c.loop-piece.file c.piece-item.result _ c.requires.cond
    c.read_piece.ensures.keeps w f is place conds
    (s (entered_by c.args.stack f) w.low w.rise.1.0
    (is_of c.args.page.now c.args.stack c.loop-piece.file f is w.name w.origin) w.rise.1.1))

------ an included file

pub overflow_sub-left : goal.overflow_sub-left
overflow_sub-left t c =
    let w = c.loop-piece.invariant in
    let f = c.requires.page.0 in
    let at = entered_by c.args.stack f in
    included_left c.args.pages.now.bundle.now at (piece_of c.piece-item.result) c.args.left
    c.in-Some.inner.page.now c.in-Some.inner.stack
    (IfSome_at _ c.in_ok-inner.field-0 c.in-Some.inner c.in-Some.is c.in_ok-inner.ensures.some at
    (is_of c.args.page.now c.args.stack c.loop-piece.file f c.requires.page.1 w.name w.origin))

pub read_file-requires : goal.read_file-requires
read_file-requires t c =
    let w = walked_next _ _ _ _ _ _ _ _ _ _ c.deref-piece-items.result.now c.loop-piece.piece-index
    c.piece-item.result (omega arith) c.piece-item.is c.loop-piece.invariant in
    let f = c.requires.page.0 in
    let at = entered_by c.args.stack f in
    let i = IfSome_at _ c.in_ok-inner.field-0 c.in-Some.inner c.in-Some.is
    c.in_ok-inner.ensures.some
    at (is_of c.args.page.now c.args.stack c.loop-piece.file f c.requires.page.1 w.name w.origin) in
    let l : 1 ≤ c.args.left = included_left c.args.pages.now.bundle.now at
    (piece_of c.piece-item.result) c.args.left c.in-Some.inner.page.now c.in-Some.inner.stack i in (
      omega (arith, c.decreases),
      (
        (IfSome_at _ c.in_ok-inner.field-0 c.in-Some.inner c.in-Some.is
            c.in_ok-inner.ensures.cond).0,
        (
          inner_sound c.args.store.now c.loop-piece.store c.read_piece.new.store c.args.unit.now
              c.loop-piece.unit c.read_piece.new.unit c.args.pages.now.bundle.now c.args.page.now
              c.args.stack
              c.args.cond c.args.left c.loop-piece.file c.read_piece.new.file c.piece-item.result _
              c.in-Some.inner.page.now c.in-Some.inner.stack c.in-Some.inner.cond c.requires.cond
              c.read_piece.ensures.keeps w
              (IfSome_at _ c.in_ok-inner.field-0 c.in-Some.inner c.in-Some.is
              c.in_ok-inner.ensures.unchanged).0
              (IfSome_at _ c.in_ok-inner.field-0 c.in-Some.inner c.in-Some.is
              c.in_ok-inner.ensures.unchanged).1
              (IfSome_at _ c.in_ok-inner.field-0 c.in-Some.inner c.in-Some.is
              c.in_ok-inner.ensures.cond).1
              (IfSome_at _ c.in_ok-inner.field-0 c.in-Some.inner c.in-Some.is
              c.in_ok-inner.ensures.some)
              f c.requires.page.1,
          (
            c.requires.pages,
            included_page c.args.pages.now.bundle.now at (piece_of c.piece-item.result) c.args.left
                c.in-Some.inner.page.now c.in-Some.inner.stack i,
          ),
        ),
      ),
    )

pub returns-in_err-read_file-clause-keeps : goal.returns-in_err-read_file-clause-keeps
returns-in_err-read_file-clause-keeps t c =
    Keeps-trans (Keeps-trans c.loop-piece.invariant.keeps c.read_piece.ensures.keeps)
    c.read_file.ensures.keeps

pub returns-in_err-read_file-clause-stops : goal.returns-in_err-read_file-clause-stops
returns-in_err-read_file-clause-stops t c =
    let w = walked_next _ _ _ _ _ _ _ _ _ _ c.deref-piece-items.result.now c.loop-piece.piece-index
    c.piece-item.result (omega arith) c.piece-item.is c.loop-piece.invariant in
    exit_of_step c.from_residual-in_err-read_file.result _ _ c.in_err-read_file.field-0.0
    c.from_residual-in_err-read_file.ensures.1 c.in_err-read_file.ensures.stops
    (λ place conds s f is. inner_stops c.args.store.now c.loop-piece.store c.read_piece.new.store
    c.args.unit.now
    c.loop-piece.unit c.read_piece.new.unit c.args.pages.now.bundle.now c.args.page.now c.args.stack
    c.args.cond c.args.left c.loop-piece.file c.read_piece.new.file c.piece-item.result _
    c.in-Some.inner.page.now c.in-Some.inner.stack c.in-Some.inner.cond c.requires.cond
    c.read_piece.ensures.keeps w
    (IfSome_at _ c.in_ok-inner.field-0 c.in-Some.inner c.in-Some.is
    c.in_ok-inner.ensures.unchanged).0
    (IfSome_at _ c.in_ok-inner.field-0 c.in-Some.inner c.in-Some.is
    c.in_ok-inner.ensures.unchanged).1
    (IfSome_at _ c.in_ok-inner.field-0 c.in-Some.inner c.in-Some.is c.in_ok-inner.ensures.cond).1
    (IfSome_at _ c.in_ok-inner.field-0 c.in-Some.inner c.in-Some.is c.in_ok-inner.ensures.some)
    f is c.read_file.new.store place conds c.read_file.ensures.keeps s)

------ the next piece

pub loop-piece-preserved : goal.loop-piece-preserved
loop-piece-preserved t c =
    let w = walked_next _ _ _ _ _ _ _ _ _ _ c.deref-piece-items.result.now c.loop-piece.piece-index
    c.piece-item.result (omega arith) c.piece-item.is c.loop-piece.invariant in
    elim c.match-branch-3.branch [
      | in-Some+in_ok-read_file v ↦
          subst₂ (λ (d : Diagram) (u : UnitSoFar). IsWalked c.args.store.now d c.args.unit.now u
          c.args.pages.now.bundle.now c.args.page.now c.args.stack c.args.cond c.args.left
          c.read_piece.new.file
          (drop (c.loop-piece.piece-index + 1) c.deref-piece-items.result.now))
          (sym v.store-is) (sym v.unit-is)
          (inner_walked c.args.store.now c.loop-piece.store c.read_piece.new.store c.args.unit.now
          c.loop-piece.unit c.read_piece.new.unit c.args.pages.now.bundle.now c.args.page.now
          c.args.stack
          c.args.cond c.args.left c.loop-piece.file c.read_piece.new.file c.piece-item.result _
          v.in-Some.inner.page.now v.in-Some.inner.stack v.in-Some.inner.cond c.requires.cond
          c.read_piece.ensures.keeps w
          (IfSome_at _ c.in_ok-inner.field-0 v.in-Some.inner v.in-Some.is
          c.in_ok-inner.ensures.unchanged).0
          (IfSome_at _ c.in_ok-inner.field-0 v.in-Some.inner v.in-Some.is
          c.in_ok-inner.ensures.unchanged).1
          (IfSome_at _ c.in_ok-inner.field-0 v.in-Some.inner v.in-Some.is
          c.in_ok-inner.ensures.cond).1
          (IfSome_at _ c.in_ok-inner.field-0 v.in-Some.inner v.in-Some.is
          c.in_ok-inner.ensures.some)
          c.requires.page.0 c.requires.page.1 v.read_file.new.store v.read_file.new.unit
          v.read_file.ensures.keeps v.in_ok-read_file.ensures.read)
      | in_default v ↦
          subst₂ (λ (d : Diagram) (u : UnitSoFar). IsWalked c.args.store.now d c.args.unit.now u
          c.args.pages.now.bundle.now c.args.page.now c.args.stack c.args.cond c.args.left
          c.read_piece.new.file
          (drop (c.loop-piece.piece-index + 1) c.deref-piece-items.result.now))
          (sym v.store-is) (sym v.unit-is)
          (walked_more c.args.store.now c.loop-piece.store c.read_piece.new.store c.args.unit.now
          c.loop-piece.unit c.args.pages.now.bundle.now c.args.page.now c.args.stack c.args.cond
          c.args.left c.loop-piece.file c.piece-item.result _ c.requires.cond
          c.read_piece.ensures.keeps w c.read_piece.new.unit c.read_piece.new.file
          c.requires.page.0 c.requires.page.1 c.in_ok-inner.ensures.file
          c.in_ok-inner.ensures.groups
          (λ f is. c.in_ok-inner.ensures.regrouped (entered_by c.args.stack f)
          (is_of c.args.page.now c.args.stack c.loop-piece.file f is w.name w.origin))
          (λ f is. IfNone_at _ c.in_ok-inner.field-0 v.in_default.is c.in_ok-inner.ensures.none
          (entered_by c.args.stack f) w.low w.rise.1.0
          (is_of c.args.page.now c.args.stack c.loop-piece.file f is w.name w.origin) w.rise.1.1
          w.sound))
    ]

------ at the end

pub end-requires-clause-groups : goal.end-requires-clause-groups
end-requires-clause-groups t c = c.loop-piece.invariant.groups

pub end-requires-clause-unit : goal.end-requires-clause-unit
end-requires-clause-unit t c = c.loop-piece.invariant.sound.unit

pub returns-in_err-end-clause-keeps : goal.returns-in_err-end-clause-keeps
returns-in_err-end-clause-keeps t c = Keeps-trans c.loop-piece.invariant.keeps c.end.ensures.keeps

pub returns-clause-keeps : goal.returns-clause-keeps
returns-clause-keeps t c = Keeps-trans c.loop-piece.invariant.keeps c.end.ensures.keeps

pub returns-clause-read : goal.returns-clause-read
returns-clause-read t c = λ f is.
    let w = subst (λ (ps : List Piece). IsWalked c.args.store.now c.loop-piece.store
    c.args.unit.now c.loop-piece.unit c.args.pages.now.bundle.now c.args.page.now c.args.stack
    c.args.cond c.args.left c.loop-piece.file ps)
    (drop_all c.loop-piece.piece-index c.deref-piece-items.result.now (omega arith))
    c.loop-piece.invariant in (
      w.low,
      walked_all c.args.store.now c.loop-piece.store c.end.new.store c.args.unit.now
          c.loop-piece.unit c.end.new.unit c.args.pages.now.bundle.now c.args.page.now c.args.stack
          c.args.cond c.args.left c.loop-piece.file c.requires.cond c.end.ensures.keeps w
          (c.in_ok-end.ensures.read (c.args.stack ++ w.low ∷ []) w.sound) f is,
    )
