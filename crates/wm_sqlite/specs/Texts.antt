-- The statements, as the code writes them.
use Rattle.std.specs.Prelude.{ℕ, List, ◌++◌, codes}

-- the columns that both tables have, as they are made
abbrev columns : List ℕ
columns = codes "version INTEGER NOT NULL, seq INTEGER PRIMARY KEY, id BLOB NOT NULL, name TEXT, class TEXT NOT NULL, kind INTEGER NOT NULL, period INTEGER NOT NULL, flex INTEGER NOT NULL, delay INTEGER NOT NULL, policy INTEGER NOT NULL, wait INTEGER NOT NULL, merger INTEGER NOT NULL, network INTEGER NOT NULL, flags INTEGER NOT NULL, phase INTEGER NOT NULL, attempt INTEGER NOT NULL, backoff_n INTEGER NOT NULL, runs INTEGER NOT NULL, generation INTEGER NOT NULL, enqueued_at INTEGER NOT NULL, input TEXT NOT NULL, output TEXT NOT NULL, prior BLOB NOT NULL, tags TEXT NOT NULL"

-- and their names
abbrev names : List ℕ
names = codes "version, seq, id, name, class, kind, period, flex, delay, policy, wait, merger, network, flags, phase, attempt, backoff_n, runs, generation, enqueued_at, input, output, prior, tags"

-- makes `work` where there is none of its name
abbrev pub create_text : List ℕ
create_text = codes "CREATE TABLE IF NOT EXISTS work(" ++ columns ++ codes ") STRICT"

-- makes `work2` where there is none of its name
abbrev pub create2_text : List ℕ
create2_text =
    codes "CREATE TABLE IF NOT EXISTS work2(" ++ columns ++ codes ", next_at INTEGER NOT NULL, keep_for INTEGER NOT NULL, finished_at INTEGER NOT NULL) STRICT"

-- shows all rows of `work` as rows of `work2`, in ascending number
abbrev pub select_text : List ℕ
select_text = codes "SELECT " ++ names ++ codes ", -1, 0, 0 FROM work ORDER BY seq"

-- shows all rows of `work2`, in ascending number
abbrev pub select2_text : List ℕ
select2_text = codes "SELECT " ++ names ++ codes ", next_at, keep_for, finished_at FROM work2 ORDER BY seq"

-- deletes the row of a number from `work`
abbrev pub delete_text : List ℕ
delete_text = codes "DELETE FROM work WHERE seq = ?1"

-- deletes the row of a number from `work2`
abbrev pub delete2_text : List ℕ
delete2_text = codes "DELETE FROM work2 WHERE seq = ?1"

-- inserts a row into `work2`
abbrev pub insert_text : List ℕ
insert_text =
    codes "INSERT INTO work2 (" ++ names ++ codes ", next_at, keep_for, finished_at) VALUES (?1, ?2, ?3, ?4, ?5, ?6, ?7, ?8, ?9, ?10, ?11, ?12, ?13, ?14, ?15, ?16, ?17, ?18, ?19, ?20, ?21, ?22, ?23, ?24, ?25, ?26, ?27)"
