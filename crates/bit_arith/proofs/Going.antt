-- Calls one after another: what is built by them, and what refuses them.
use Rattle.std.proofs.Common.{◌≡◌, refl, sym, ap, ◌∙◌, subst}
use Rattle.std.specs.Prelude.{Result, Ok, Err, IfOk, IfErr, IsErrAnd}
use Rattle.silq_io.specs.declared.limit.LimitFault.{LimitFault}
use Rattle.silq_io.specs.declared.limit.LimitFault.TheVariants.{Memory}
use Rattle.bit_arith.specs.Built.{Built, Setting, begun}
use Rattle.bit_arith.specs.Calls.{Building, Went, Refused}
use Rattle.bit_arith.proofs.Chained.{built_by, refused_later}
use Rattle.bit_arith.proofs.Grows.{Grows, XGrows, x_same, x_then}

-- what was built goes on from its draft
pub went_is : (old new : Building) (row : Built) → Went old new row → begun new.draft ≡ row
went_is old new row w = sym (built_by w)

-- what a row keeps, its call keeps
pub went_grows : (old new : Building) (row : Built) → XGrows (begun old.draft) row → Went old new row → XGrows (begun old.draft) (begun new.draft)
went_grows old new row x w = subst (λ (b : Built). XGrows (begun old.draft) b) (sym (went_is old new row w)) x

pub went_as : (old new : Building) (row other : Built) → row ≡ other → Went old new row → Went old new other
went_as old new row other e w = subst (λ (r : Built). Went old new r) e w

pub refused_as : (fault : LimitFault) (row other : Built) → row ≡ other → Refused fault row → Refused fault other
refused_as fault row other e r = subst (λ (b : Built). Refused fault b) e r

-- a limit that was passed stays the first
pub refused_on : (fault : LimitFault) (row more : Built) → Grows row more → Refused fault row → Refused fault more
refused_on fault row more g r = refused_later fault g r

-- what a `?` gives back
pub refused_out : {A : Type 0} (result : Result A LimitFault) (fault : LimitFault) (row : Built) → IsErrAnd result (λ x. x ≡ fault) → Refused fault row → IfErr result (λ e. Refused e row)
refused_out (Err x) fault row e r = subst (λ (f : LimitFault). Refused f row) (sym e) r
refused_out (Ok a) fault row e r = tt

-- a row of steps in a setting
abbrev pub Row : Type 0
Row = Setting → Built → Built

-- what a next call starts from
pub went_same : {G : Type 0} (old mid : Building) (row : Built) (next : Setting → Built → G) → Went old mid row → next mid.setting (begun mid.draft) ≡ next old.setting row
went_same old mid row next w = ap (λ (s : Setting). next s (begun mid.draft)) w.kept ∙ ap (next old.setting) (went_is old mid row w)

-- a call, and another one on what it built
pub went_then : (old mid new : Building) (row : Built) (next : Row) → Went old mid row → Went mid new (next mid.setting (begun mid.draft)) → Went old new (next old.setting row)
went_then old mid new row next w v =
    let u : Went mid new (next old.setting row) = went_as mid new _ _ (went_same old mid row next w) v in
    record { within = u.within; built = u.built; kept = v.kept ∙ w.kept }

pub refused_then : (old mid : Building) (row : Built) (next : Row) (fault : LimitFault) → Went old mid row → Refused fault (next mid.setting (begun mid.draft)) → Refused fault (next old.setting row)
refused_then old mid row next fault w r =
    refused_as fault _ _ (went_same old mid row next w) r

-- what is built now: the rest of a row from here is all of it, from the start
pub record Going {G : Type 0} (old now : Building) (rest : Setting → Built → G) (all : G) : Type 0 where
  pub same : rest now.setting (begun now.draft) ≡ all
  pub kept : now.setting ≡ old.setting
  pub grown : XGrows (begun old.draft) (begun now.draft)

pub going_start : {G : Type 0} (old : Building) (rest : Setting → Built → G) → Going old old rest (rest old.setting (begun old.draft))
going_start old rest = record { same = refl; kept = refl; grown = x_same (begun old.draft) }

-- a first call stands before all of it
pub going_from : {G : Type 0} (old now : Building) (row : Built) (rest : Setting → Built → G) → XGrows (begun old.draft) row → Went old now row → Going old now rest (rest old.setting row)
going_from old now row rest g w = record {
  same = went_same old now row rest w;
  kept = w.kept;
  grown = went_grows old now row g w;
}

-- one more call of it went well
pub going_more : {G : Type 0} (old now new : Building) (rest : Setting → Built → G) (step : Row) (next : Setting → Built → G) (all : G) → rest now.setting (begun now.draft) ≡ next now.setting (step now.setting (begun now.draft)) → ((at : Setting) (b : Built) → XGrows b (step at b)) → Going old now rest all → Went now new (step now.setting (begun now.draft)) → Going old new next all
going_more old now new rest step next all turn grows g w =
    let here : begun new.draft ≡ step now.setting (begun now.draft) = went_is now new _ w in
    record {
      same = ap (λ (s : Setting). next s (begun new.draft)) w.kept ∙ ap (next now.setting) here ∙ sym turn ∙ g.same;
      kept = w.kept ∙ g.kept;
      grown = x_then g.grown (went_grows now new _ (grows now.setting (begun now.draft)) w);
    }

-- one more call of it was refused
pub going_refused : {G : Type 0} (built : G → Built) (old now : Building) (rest : Setting → Built → G) (step : Row) (next : Setting → Built → G) (all : G) (fault : LimitFault) → rest now.setting (begun now.draft) ≡ next now.setting (step now.setting (begun now.draft)) → ((at : Setting) (b : Built) → XGrows b (built (next at b))) → Going old now rest all → Refused fault (step now.setting (begun now.draft)) → Refused fault (built all)
going_refused built old now rest step next all fault turn grows g r =
    let here : Built = step now.setting (begun now.draft) in
    refused_as fault _ _ (ap built (sym turn ∙ g.same)) (refused_on fault here (built (next now.setting here)) (grows now.setting here).grows r)

-- nothing of it is left
pub going_end : {G : Type 0} (built : G → Built) (old now : Building) (rest : Setting → Built → G) (all : G) → ((at : Setting) (b : Built) → built (rest at b) ≡ b) → Going old now rest all → Went old now (built all)
going_end built old now rest all ends g =
    let here : begun now.draft ≡ built all = sym (ends now.setting (begun now.draft)) ∙ ap built g.same in
    record { within = sym (ap (λ (b : Built). b.over) here); built = ap (λ (b : Built). b.draft) here; kept = g.kept }

-- a row as it is
abbrev pub whole : Built → Built
whole b = b

-- the same where the next call has the answer of the first
pub went_with : {A : Type 0} (old mid new : Building) (row : Built) (next : A → Row) (a given : A) → a ≡ given → Went old mid row → Went mid new (next a mid.setting (begun mid.draft)) → Went old new (next given old.setting row)
went_with old mid new row next a given e w v =
    went_as old new _ _ (ap (λ (x : _). next x old.setting row) e) (went_then old mid new row (next a) w v)

pub refused_with : {A : Type 0} (old mid : Building) (row : Built) (next : A → Row) (a given : A) (fault : LimitFault) → a ≡ given → Went old mid row → Refused fault (next a mid.setting (begun mid.draft)) → Refused fault (next given old.setting row)
refused_with old mid row next a given fault e w r =
    refused_as fault _ _ (ap (λ (x : _). next x old.setting row) e) (refused_then old mid row (next a) fault w r)

-- a last call, whose `Result` is returned as it is
pub ok_last : {A E : Type 0} (result : Result A E) (P Q : Type 0) → (P → Q) → IfOk result (λ _. P) → IfOk result (λ _. Q)
ok_last (Ok a) P Q f p = f p
ok_last (Err e) P Q f p = tt

pub refused_last : {A : Type 0} (result : Result A LimitFault) (row other : Built) → ((fault : LimitFault) → Refused fault row → Refused fault other) → IfErr result (λ e. Refused e row) → IfErr result (λ e. Refused e other)
refused_last (Ok a) row other f p = tt
refused_last (Err e) row other f p = f e p

-- want of memory
pub memory_out : {A : Type 0} (result : Result A LimitFault) (row : Built) → IsErrAnd result (λ x. x ≡ Memory) → IfErr result (λ e. Refused e row)
memory_out result row is = refused_out result Memory row is tt
