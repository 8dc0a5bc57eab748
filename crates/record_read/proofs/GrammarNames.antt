-- What is given by its name: a step of the reader gives it exactly if the field is its name.
use Rattle.std.proofs.Common.{◌≡◌, ◌∙◌, ℕ, List, [], ◌∷◌, Bool, true, false, Option, Some, None, Result, Ok, Err, refl, sym, ap, subst, if◌then◌else◌}
use Rattle.std.specs.Prelude.{IsTrue, codes, option_map}
use Rattle.std.specs.List.{find, list_all}
use Rattle.std.specs.Str.{bytes_eq}
use Rattle.std.proofs.lemmas.Bool.{and_parts}
use Rattle.std.proofs.lemmas.Option.{cond_some, none-some, same_Some}
use Rattle.std.proofs.lemmas.Slice.Eq.{bytes_eq-Decides}
use Rattle.apex_types.specs.declared.code.Code.{Code}
use Rattle.apex_types.specs.declared.code.Code.TheVariants as code
use Rattle.apex_types.specs.declared.record.Out.{Out}
use Rattle.apex_types.specs.declared.record.Out.TheVariants as out
use Rattle.apex_types.specs.declared.service.Service.{Service}
use Rattle.apex_types.specs.declared.service.Service.TheVariants as service
use Rattle.apex_types.specs.declared.service.TheConstants.{SERVICES}
use Rattle.apex_types.specs.CodeName as CodeName
use Rattle.apex_types.specs.Services as Services
use Rattle.record_read.specs.declared.fault.RowFault.{RowFault}
use Rattle.record_read.specs.declared.fault.RowFault.TheVariants.{BadError, BadKind, BadOut, BadService, FieldNotForKind}
use Rattle.apex_types.specs.declared.format.Format.{Format}
use Rattle.record_read.specs.declared.kind.Kind.{Kind}
use Rattle.record_read.specs.declared.kind.Kind.TheVariants as kind
use Rattle.apex_types.specs.Services.{is_in}
use Rattle.record_read.specs.Field.{filled}
use Rattle.record_read.specs.FirstFault.{HoldsError, HoldsKind}
use Rattle.record_read.specs.Grammar.{HoldsOutcome, HoldsService, HoldsRestart}
use Rattle.record_read.specs.Named.{all_codes, all_errors, code_named, code_of, has_kind, kind_in, kind_name, kind_named, kind_of, out_named, out_of, service_among, service_in, service_named, service_of, error_named, error_of, restart_of}
use Rattle.record_read.proofs.GrammarFields.{found_first, no_fault, ok_some, same_ok}
use Rattle.apex_types.specs.ErrorName as ErrorName
use Rattle.apex_types.specs.declared.error.ErrorCode.{ErrorCode}
use Rattle.apex_types.specs.declared.error.ErrorCode.TheVariants as error

-- the first of two finds: the text has the first name and this is what it names, or the second find gives it
first_is : {A : Type 0} (name text : List ℕ) (named : A) (others : Option A) (found : A) (Holds : A → Type 0) → (name ≡ text → Holds named)
    → (others ≡ Some found → Holds found) → (if bytes_eq name text then Some named else others) ≡ Some found → Holds found
first_is name text named others found Holds first more e = by (bytes_eq name text) refl e
  where
    by : (same : Bool) → bytes_eq name text ≡ same → (if same then Some named else others) ≡ Some found → Holds found
    by true same e = subst Holds (same_Some named found e) (first ((bytes_eq-Decides name text).0 same))
    by false same e = more e

-- a text that names a kind is its name
kind_named_is : (text : List ℕ) (k : Kind) → kind_named text ≡ Some k → text ≡ kind_name k
unfolding kind_named
kind_named_is text k e =
    first_is text (codes "call") kind.Call _ k (λ found. text ≡ kind_name found) (λ same. same)
    (first_is text (codes "ret") kind.Ret _ k (λ found. text ≡ kind_name found) (λ same. same)
    (first_is text (codes "disp") kind.Disp _ k (λ found. text ≡ kind_name found) (λ same. same)
    (first_is text (codes "tick") kind.Tick _ k (λ found. text ≡ kind_name found) (λ same. same)
    (first_is text (codes "arrive") kind.Arrive _ k (λ found. text ≡ kind_name found) (λ same. same)
    (first_is text (codes "depart") kind.Depart _ k (λ found. text ≡ kind_name found) (λ same. same)
    (first_is text (codes "err") kind.Error None k (λ found. text ≡ kind_name found) (λ same. same)
    (λ none. absurd (none-some k none)))))))) e

-- a field that is read as a kind is its name, and the kind is in the format
pub kind_is : (format : Format) (text : List ℕ) (k : Kind) → kind_of format text ≡ Ok k → HoldsKind format text k
unfolding kind_of kind_in filled
kind_is format [] k e = no_fault FieldNotForKind k e
kind_is format (b ∷ bs) k e =
    let found = found_first (λ given. if has_kind format given then Some given else None) (kind_named (b ∷ bs)) k (ok_some (kind_in format (b ∷ bs)) BadKind k e) in
    let known = cond_some (has_kind format found.0) found.0 k found.2 in
    record { named = kind_named_is (b ∷ bs) k (found.1 ∙ ap Some known.1); in_format = subst (λ given. IsTrue (has_kind format given)) known.1 known.0 }

-- the name of a kind of the format names it
of_kind_name : (format : Format) (k : Kind) → IsTrue (has_kind format k) → kind_of format (kind_name k) ≡ Ok k
unfolding kind_of kind_named kind_in filled
of_kind_name format kind.Call known = rw known refl
of_kind_name format _ known = rw known refl

-- a field that is the name of a kind of the format is read as it
pub is_kind : (format : Format) (text : List ℕ) (k : Kind) → HoldsKind format text k → kind_of format text ≡ Ok k
is_kind format text k h = ap (kind_of format) h.named ∙ of_kind_name format k h.in_format

-- a text that names a service among some rows is its name, if each row has its service's name
service_among_is : (rows : List Services.Row) (text : List ℕ) (s : Service) → IsTrue (list_all (λ row. bytes_eq row.name.now (Services.name_of row.service)) rows)
    → service_among (λ name. name.now) rows text ≡ Some s → text ≡ Services.name_of s
unfolding service_among
service_among_is [] text s own e = absurd (none-some s e)
service_among_is (row ∷ rows) text s own e =
    let parts = and_parts _ _ own in
    first_is row.name.now text row.service (service_among (λ name. name.now) rows text) s (λ found. text ≡ Services.name_of found)
    (λ same. sym same ∙ (bytes_eq-Decides row.name.now (Services.name_of row.service)).0 parts.0) (service_among_is rows text s parts.1) e

-- a text that names a service is its name
service_named_is : (text : List ℕ) (s : Service) → service_named text ≡ Some s → text ≡ Services.name_of s
unfolding service_named Services.row_of
service_named_is text s e = service_among_is SERVICES text s refl e

-- a field that is read as a service is its name, and the service is in the format
pub service_is : (format : Format) (text : List ℕ) (s : Service) → service_of format text ≡ Ok s → HoldsService format text s
unfolding service_of service_in filled
service_is format [] s e = no_fault FieldNotForKind s e
service_is format (b ∷ bs) s e =
    let found = found_first (λ given. if is_in format given then Some given else None) (service_named (b ∷ bs)) s (ok_some (service_in format (b ∷ bs)) BadService s e) in
    let known = cond_some (is_in format found.0) found.0 s found.2 in
    record { named = service_named_is (b ∷ bs) s (found.1 ∙ ap Some known.1); in_format = subst (λ given. IsTrue (is_in format given)) known.1 known.0 }

-- the name of a service of the format names it, and no service before it
of_service_name : (format : Format) (s : Service) → IsTrue (is_in format s) → service_of format (Services.name_of s) ≡ Ok s
unfolding service_of service_named service_among Services.row_of service_in filled
of_service_name format service.CreateProcess known = rw known refl
of_service_name format _ known = rw known refl

-- a field that is the name of a service of the format is read as it
pub is_service : (format : Format) (text : List ℕ) (s : Service) → HoldsService format text s → service_of format text ≡ Ok s
is_service format text s h = ap (service_of format) h.named ∙ of_service_name format s h.in_format

-- a text that names a code among some is its name
code_among_is : (cs : List Code) (text : List ℕ) (c : Code) → find (λ other. bytes_eq (CodeName.name_of other) text) cs ≡ Some c → text ≡ CodeName.name_of c
code_among_is [] text c e = absurd (none-some c e)
code_among_is (first ∷ others) text c e =
    first_is (CodeName.name_of first) text first (find (λ other. bytes_eq (CodeName.name_of other) text) others) c (λ found. text ≡ CodeName.name_of found) sym (code_among_is others text c) e

-- a field that is read as a code is its name
pub code_is : (text : List ℕ) (c : Code) → code_of text ≡ Ok c → text ≡ CodeName.name_of c
unfolding code_of filled
code_is [] c e = no_fault FieldNotForKind c e
code_is (b ∷ bs) c e = code_among_is all_codes (b ∷ bs) c (ok_some (code_named (b ∷ bs)) BadOut c e)

-- the name of a code names it, and no code before it
of_code_name : (c : Code) → code_of (CodeName.name_of c) ≡ Ok c
unfolding code_of filled
of_code_name code.NoError = refl
of_code_name _ = refl

-- a field that is the name of a code is read as it
pub is_code : (text : List ℕ) (c : Code) → text ≡ CodeName.name_of c → code_of text ≡ Ok c
is_code text c e = ap code_of e ∙ of_code_name c

-- a text that names an error among some is its name
error_among_is : (errors : List ErrorCode) (text : List ℕ) (e : ErrorCode) → find (λ other. bytes_eq (ErrorName.name_of other) text) errors ≡ Some e → text ≡ ErrorName.name_of e
error_among_is [] text e found = absurd (none-some e found)
error_among_is (first ∷ others) text e found =
    first_is (ErrorName.name_of first) text first (find (λ other. bytes_eq (ErrorName.name_of other) text) others) e (λ named. text ≡ ErrorName.name_of named) sym (error_among_is others text e) found

-- the name of the error that a call raises is read as no error
no_raised : error_of (ErrorName.name_of error.ApplicationError) ≡ Err BadError
unfolding error_of filled
no_raised = refl

-- an error that is read is none that a call raises
not_raised : (text : List ℕ) (e : ErrorCode) → text ≡ ErrorName.name_of e → error_of text ≡ Ok e → ¬ (e ≡ error.ApplicationError)
not_raised text e named read raised =
    let f : ◌≡◌ {A = Result ErrorCode RowFault} (Err BadError) (Ok e) =
    sym no_raised ∙ (ap (λ one. error_of (ErrorName.name_of one)) (sym raised) ∙ (sym (ap error_of named) ∙ read)) in cc

-- a field that is read as an error is its name
error_named_is : (text : List ℕ) (e : ErrorCode) → error_of text ≡ Ok e → text ≡ ErrorName.name_of e
unfolding error_of filled
error_named_is [] e read = no_fault FieldNotForKind e read
error_named_is (b ∷ bs) e read = error_among_is all_errors (b ∷ bs) e (ok_some (error_named (b ∷ bs)) BadError e read)

-- a field that is read as an error holds it
pub error_is : (text : List ℕ) (e : ErrorCode) → error_of text ≡ Ok e → HoldsError text e
error_is text e read = let named = error_named_is text e read in (named, not_raised text e named read)

-- the name of an error that a row can report names it
of_error_name : (e : ErrorCode) → ¬ (e ≡ error.ApplicationError) → error_of (ErrorName.name_of e) ≡ Ok e
unfolding error_of filled
of_error_name error.ApplicationError reported = absurd (reported refl)
of_error_name _ reported = refl

-- a field that holds an error is read as it
pub is_error : (text : List ℕ) (e : ErrorCode) → HoldsError text e → error_of text ≡ Ok e
is_error text e h = ap error_of h.0 ∙ of_error_name e h.1

-- a field that says whether an error restarts its partition holds what is read
pub restart_is : (text : List ℕ) (restarts : Bool) → restart_of text ≡ Ok restarts → HoldsRestart text restarts
unfolding restart_of
restart_is [] false e = refl
restart_is [] true e = absurd (let f : false ≡ true = same_ok false true e in cc)
restart_is (b ∷ bs) restarts e = by (bytes_eq (b ∷ bs) (codes "none")) refl e
  where
    by : (same : Bool) → bytes_eq (b ∷ bs) (codes "none") ≡ same → (if same then Ok true else Err BadOut) ≡ Ok restarts → HoldsRestart (b ∷ bs) restarts
    by true same e = subst (HoldsRestart (b ∷ bs)) (same_ok true restarts e) ((bytes_eq-Decides (b ∷ bs) (codes "none")).0 same)
    by false same e = no_fault BadOut restarts e

-- a field that holds whether an error restarts its partition is read as it
pub is_restart : (text : List ℕ) (restarts : Bool) → HoldsRestart text restarts → restart_of text ≡ Ok restarts
unfolding restart_of
is_restart text true h = rw h refl
is_restart text false h = rw h refl

-- a text that names a code holds that code as its outcome
answer_is : (text : List ℕ) (o : Out) (found : Option Code) → code_named text ≡ found → option_map out.Answer found ≡ Some o → HoldsOutcome text o
answer_is text o None none e = absurd (none-some o e)
answer_is text o (Some c) is e = subst (HoldsOutcome text) (same_Some (out.Answer c) o e) (code_among_is all_codes text c is)

-- a text that names an outcome holds it
out_named_is : (text : List ℕ) (o : Out) → out_named text ≡ Some o → HoldsOutcome text o
unfolding out_named
out_named_is text o e =
    first_is text (codes "wait") out.Waits _ o (HoldsOutcome text) (λ same. same)
    (first_is text (codes "none") out.Never (option_map out.Answer (code_named text)) o (HoldsOutcome text) (λ same. same)
    (answer_is text o (code_named text) refl)) e

-- a field that is read as an outcome holds it
pub outcome_is : (text : List ℕ) (o : Out) → out_of text ≡ Ok o → HoldsOutcome text o
unfolding out_of filled
outcome_is [] o e = no_fault FieldNotForKind o e
outcome_is (b ∷ bs) o e = out_named_is (b ∷ bs) o (ok_some (out_named (b ∷ bs)) BadOut o e)

-- the name of a code is the outcome with that code
of_code_outcome : (c : Code) → out_of (CodeName.name_of c) ≡ Ok (out.Answer c)
unfolding out_of out_named filled
of_code_outcome code.NoError = refl
of_code_outcome _ = refl

-- a field that holds an outcome is read as it
pub is_outcome : (text : List ℕ) (o : Out) → HoldsOutcome text o → out_of text ≡ Ok o
unfolding out_of out_named filled
is_outcome text out.Waits e = ap out_of e
is_outcome text out.Never e = ap out_of e
is_outcome text (out.Answer c) e = ap out_of e ∙ of_code_outcome c
