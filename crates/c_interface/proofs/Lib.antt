mod JobLaws
