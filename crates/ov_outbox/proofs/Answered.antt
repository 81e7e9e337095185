-- What is sent to a session, as frames that wait.
use Rattle.std.proofs.Common.{◌≡◌, ℕ, List, [], ◌∷◌, ◌++◌, map, refl, sym, ap, ◌∙◌, cond, eqb, Bool, true, false, append_assoc}
use Rattle.std.proofs.lemmas.List.{append-nil, map-append}
use Rattle.std.proofs.lemmas.List.Elements.{filter-append}
use Rattle.serde_json.specs.Data.{Data, array, Items}
use Rattle.ov_specs.specs.wire.Frame.{frame, reply_tree}
use Rattle.ov_specs.specs.machine.Machine.{Sent, to_session, results_to}
use Rattle.ov_specs.specs.machine.History.{frames_to}
use Rattle.ov_outbox.specs.Frames.{WaitingFrames, waiting_for, PostsFrame, PostsSent, HasSameFrames}
use Rattle.ov_outbox.proofs.Releasing.{turned}

frames_by : (s other : ℕ) (b : Bool) → eqb s other ≡ b → (trees : List Data) → frames_to other (to_session s trees) ≡ cond b (map frame trees) []
frames_by s other true e [] = refl
frames_by s other false e [] = refl
frames_by s other true e (t ∷ trees) = rw e (ap (λ fs. frame t ∷ fs) (frames_by s other true e trees))
frames_by s other false e (t ∷ trees) = rw e (frames_by s other false e trees)

-- the frames of one session's trees
pub frames_to-to_session : (s other : ℕ) (trees : List Data) → frames_to other (to_session s trees) ≡ cond (eqb other s) (map frame trees) []
frames_to-to_session s other trees = frames_by s other (eqb other s) (turned s other) trees

-- a frame that was added is what is sent
pub adds_sent : (s : ℕ) (bytes : List ℕ) (trees : List Data) (old new : WaitingFrames) → map frame trees ≡ bytes ∷ [] → PostsFrame s bytes old new → PostsSent (to_session s trees) old new
adds_sent s bytes trees old new is added other = added other ∙ ap (λ fs. waiting_for other old ++ fs) (sym (frames_to-to_session s other trees ∙ ap (λ fs. cond (eqb other s) fs []) is))

-- so is the frame of a transaction's results
pub sends_results : (s : ℕ) (id : Data) (results : Items) (bytes : List ℕ) (old new : WaitingFrames) → bytes ≡ frame (reply_tree id (array results)) → PostsFrame s bytes old new → PostsSent (results_to s id results) old new
sends_results s id results bytes old new is added = adds_sent s bytes (reply_tree id (array results) ∷ []) old new (ap (λ (b : List ℕ). b ∷ []) (sym is)) added

nothing_by : (b : Bool) → cond {A = List (List ℕ)} b [] [] ≡ []
nothing_by true = refl
nothing_by false = refl

-- if nothing is sent, nothing is added
pub nothing_sent : (s : ℕ) (trees : List Data) (old : WaitingFrames) → map frame trees ≡ [] → PostsSent (to_session s trees) old old
nothing_sent s trees old is other = sym (ap (λ fs. waiting_for other old ++ fs) (frames_to-to_session s other trees ∙ (ap (λ fs. cond (eqb other s) fs []) is ∙ nothing_by (eqb other s))) ∙ append-nil (waiting_for other old))

-- what is sent in two parts
pub frames_to-append : (s : ℕ) (xs ys : List Sent) → frames_to s (xs ++ ys) ≡ frames_to s xs ++ frames_to s ys
frames_to-append s xs ys = ap (map (λ (t : Sent). frame t.tree)) (filter-append (λ (t : Sent). eqb t.session s) xs ys) ∙ map-append _ _ _

pub posts_then : (xs ys : List Sent) (a b c : WaitingFrames) → PostsSent xs a b → PostsSent ys b c → PostsSent (xs ++ ys) a c
posts_then xs ys a b c first then s =
    then s ∙ (ap (λ (fs : List (List ℕ)). fs ++ frames_to s ys) (first s) ∙ (append_assoc (waiting_for s a) (frames_to s xs) (frames_to s ys) ∙ ap (λ (fs : List (List ℕ)). waiting_for s a ++ fs) (sym (frames_to-append s xs ys))))

-- what is sent in one part, before or after which the same frames wait
pub posts_after : (xs : List Sent) (a b c : WaitingFrames) → HasSameFrames a b → PostsSent xs b c → PostsSent xs a c
posts_after xs a b c same posts s = posts s ∙ ap (λ (fs : List (List ℕ)). fs ++ frames_to s xs) (same s)

pub posts_before : (xs : List Sent) (a b c : WaitingFrames) → PostsSent xs a b → HasSameFrames b c → PostsSent xs a c
posts_before xs a b c posts same s = same s ∙ posts s
