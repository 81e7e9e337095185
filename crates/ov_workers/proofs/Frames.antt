-- Frames that were taken and written, one after another.
use Rattle.std.proofs.Common.{◌≡◌, ℕ, List, [], ◌∷◌, ◌++◌, map, Bool, true, false, refl, sym, ap, ◌∙◌, append_assoc, append-nil}
use Rattle.std.proofs.lemmas.List.{map-append}
use Rattle.std.proofs.lemmas.Grind.{flat_map-append}
use Rattle.ov_ends.specs.States.{SinkState}
use Rattle.ov_specs.specs.machine.History.{joined}
use Rattle.ov_ends.specs.Ends.{one_more, GivesWritten}
use Rattle.ov_ends.specs.Writing.{WritesOf}
use Rattle.ov_ends.proofs.Tellings.{given-more, given-same}
use Rattle.ov_order.specs.declared.items.Sent.{Sent}
use Rattle.ov_order.specs.declared.items.Sent.TheVariants.{Frame, End}
use Rattle.ov_workers.specs.Writing.{Writes}

joined-append : (xs ys : List (List ℕ)) → joined (xs ++ ys) ≡ joined xs ++ joined ys
joined-append xs ys = flat_map-append (λ (bytes : List ℕ). bytes) xs ys

-- frames after frames
pub frames_after : (items items' more : List Sent) (frames others : List (List ℕ)) → items ≡ map Frame frames → items' ≡ items ++ (map Frame others ++ more) → items' ≡ map Frame (frames ++ others) ++ more
frames_after items items' more frames others is taken =
    taken ∙ (ap (λ (l : List Sent). l ++ (map Frame others ++ more)) is
    ∙ (sym (append_assoc (map Frame frames) (map Frame others) more) ∙ ap (λ (l : List Sent). l ++ more) (sym (map-append Frame frames others))))

-- one frame was taken after others
pub frames_push : (first items items' : List Sent) (frames : List (List ℕ)) (frame : List ℕ) → items ≡ first ++ map Frame frames → items' ≡ items ++ Frame frame ∷ [] → items' ≡ first ++ map Frame (frames ++ frame ∷ [])
frames_push first items items' frames frame is taken =
    taken ∙ (ap (λ (l : List Sent). l ++ Frame frame ∷ []) is
    ∙ (append_assoc first (map Frame frames) (Frame frame ∷ []) ∙ ap (λ (l : List Sent). first ++ l) (sym (map-append Frame frames (frame ∷ [])))))

-- the end mark was taken after frames
pub frames_end : (first items items' : List Sent) (frames : List (List ℕ)) → items ≡ first ++ map Frame frames → items' ≡ items ++ End ∷ [] → items' ≡ first ++ (map Frame frames ++ End ∷ [])
frames_end first items items' frames is taken =
    taken ∙ (ap (λ (l : List Sent). l ++ End ∷ []) is ∙ append_assoc first (map Frame frames) (End ∷ []))

-- these items were taken so far, frames alone, and all of them were written
pub record WrittenSoFar (old new : SinkState) (items : List Sent) : Type 0 where
  pub frames : List (List ℕ)
  pub taken : items ≡ map Frame frames
  pub written : new.written ≡ old.written ++ joined frames
  pub faults : new.faults ≡ old.faults
  pub given : GivesWritten old.written old.contents new.written new.contents

pub written_none : (s : SinkState) (items : List Sent) → items ≡ [] → WrittenSoFar s s items
written_none s items none = record {
  frames = [];
  taken = none;
  written = sym (append-nil s.written);
  faults = refl;
  given = given-same s.written s.contents;
}

module _ (old mid : SinkState) (items : List Sent) (so_far : WrittenSoFar old mid items) where
  -- what is held was flushed, or nothing was done
  pub written_same : (new : SinkState) → new.written ≡ mid.written → new.faults ≡ mid.faults → GivesWritten mid.written mid.contents new.written new.contents → WrittenSoFar old new items
  written_same new same good given = record {
    frames = so_far.frames;
    taken = so_far.taken;
    written = same ∙ so_far.written;
    faults = good ∙ so_far.faults;
    given = given-more old.written mid.written new.written old.contents mid.contents new.contents so_far.given given;
  }

  -- one frame more was taken and written
  pub written_more : (new : SinkState) (items' : List Sent) (frame bytes : List ℕ) → items' ≡ items ++ Frame frame ∷ [] → bytes ≡ frame → new.written ≡ mid.written ++ bytes → new.faults ≡ mid.faults
      → GivesWritten mid.written mid.contents new.written new.contents → WrittenSoFar old new items'
  written_more new items' frame bytes taken same wrote good given = record {
    frames = so_far.frames ++ frame ∷ [];
    taken = frames_push [] items items' so_far.frames frame so_far.taken taken;
    written = wrote ∙ (ap (λ (l : List ℕ). l ++ bytes) so_far.written ∙ (append_assoc old.written (joined so_far.frames) bytes
        ∙ ap (λ (l : List ℕ). old.written ++ l) (ap (λ (l : List ℕ). joined so_far.frames ++ l) (same ∙ sym (append-nil frame)) ∙ sym (joined-append so_far.frames (frame ∷ [])))));
    faults = good ∙ so_far.faults;
    given = given-more old.written mid.written new.written old.contents mid.contents new.contents so_far.given given;
  }

  -- the writer failed, and the frames after that were dropped
  pub written_part : (new : SinkState) (items' : List Sent) (following : List (List ℕ)) → items' ≡ items ++ (map Frame following ++ End ∷ []) → WritesOf false (joined following) mid.written new.written → new.faults ≡ one_more mid.faults
      → GivesWritten mid.written mid.contents new.written new.contents → Writes false old new items'
  written_part new items' following taken (part, wrote, (others, begins)) bad given = record {
    frames = so_far.frames ++ following;
    taken = frames_after items items' (End ∷ []) so_far.frames following so_far.taken taken;
    written = (
      joined so_far.frames ++ part,
      wrote ∙ (ap (λ (l : List ℕ). l ++ part) so_far.written ∙ append_assoc old.written (joined so_far.frames) part),
      (others, append_assoc (joined so_far.frames) part others ∙ (ap (λ (l : List ℕ). joined so_far.frames ++ l) begins ∙ sym (joined-append so_far.frames following))),
    );
    flushed = λ whole. let no : false ≡ true = whole in cc;
    faults = bad ∙ ap one_more so_far.faults;
    given = given-more old.written mid.written new.written old.contents mid.contents new.contents so_far.given given;
  }

  -- the writer failed as it flushed what it held
  pub failed_flush : (new : SinkState) (items' : List Sent) (following : List (List ℕ)) → items' ≡ items ++ (map Frame following ++ End ∷ []) → new.written ≡ mid.written → new.faults ≡ one_more mid.faults
      → GivesWritten mid.written mid.contents new.written new.contents → Writes false old new items'
  unfolding written_part
  failed_flush new items' following taken same bad given = written_part new items' following taken ([], same ∙ sym (append-nil mid.written), (joined following, refl)) bad given

  -- the writer failed in a frame
  pub failed_write : (new : SinkState) (items1 items' : List Sent) (frame bytes : List ℕ) (following : List (List ℕ)) → items1 ≡ items ++ Frame frame ∷ [] → items' ≡ items1 ++ (map Frame following ++ End ∷ []) → bytes ≡ frame
      → WritesOf false bytes mid.written new.written → new.faults ≡ one_more mid.faults → GivesWritten mid.written mid.contents new.written new.contents → Writes false old new items'
  failed_write new items1 items' frame bytes following taken dropped same (part, wrote, (others, begins)) bad given =
      written_part new items' (frame ∷ following) (dropped ∙ (ap (λ (l : List Sent). l ++ (map Frame following ++ End ∷ [])) taken ∙ append_assoc items (Frame frame ∷ []) (map Frame following ++ End ∷ [])))
      (part, wrote, (others ++ joined following, sym (append_assoc part others (joined following)) ∙ ap (λ (l : List ℕ). l ++ joined following) (begins ∙ same))) bad given

  -- the end mark was taken, and what is held was flushed, or not
  pub written_all : (is_whole : Bool) (new : SinkState) (items' : List Sent) → items' ≡ items ++ End ∷ [] → new.written ≡ mid.written → new.is_flushed ≡ is_whole → (is_whole ≡ true → new.faults ≡ mid.faults) → (is_whole ≡ false → new.faults ≡ one_more mid.faults)
      → GivesWritten mid.written mid.contents new.written new.contents → Writes is_whole old new items'
  written_all false new items' taken same flushed good bad given = failed_flush new items' [] taken same (bad refl) given
  written_all true new items' taken same flushed good bad given = record {
    frames = so_far.frames;
    taken = frames_end [] items items' so_far.frames so_far.taken taken;
    written = same ∙ so_far.written;
    flushed = λ _. flushed;
    faults = good refl ∙ so_far.faults;
    given = given-more old.written mid.written new.written old.contents mid.contents new.contents so_far.given given;
  }
